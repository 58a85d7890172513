use Rattle.std.proofs.Common.{◌∙◌}
use Rattle.mix_audience.proofs.Kept.{as_seen, joined_where_open, said_found}
use Rattle.mix_audience.proofs.audience.Audience.waiting.Goals as goal

-- who is open has joined
pub copy-requires : goal.copy-requires
copy-requires c = record {
  joined = joined_where_open c.args.conn (as_seen _ c.self.invariant c.self.view_is)
      ∙ c.requires.is_there;
}

-- what waits in its lane waits for the connection
pub returns-clause-said : goal.returns-clause-said
returns-clause-said c = c.in_ok-copy.ensures.said
    ∙ said_found c.args.conn (as_seen _ c.self.invariant c.self.view_is)
