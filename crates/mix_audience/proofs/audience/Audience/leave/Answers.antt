use Rattle.std.proofs.Common.{◌∙◌}
use Rattle.mix_audience.proofs.Kept.{as_seen, joined_where_open, left}
use Rattle.mix_audience.proofs.audience.Audience.leave.Goals as goal

-- who is open has joined
pub leave-requires : goal.leave-requires
leave-requires c = record {
  joined = joined_where_open c.args.conn (as_seen _ c.self.invariant c.self.view_is)
      ∙ c.requires.is_there;
}

-- the others stay beside each other
pub invariant_of-self : goal.invariant_of-self
invariant_of-self c = (left _ c.leave.new.self c.self.invariant c.self.view_is
    c.leave.ensures.limit c.args.conn c.remove.ensures.state c.leave.ensures.lanes).kept

-- and nobody else is there
pub returns-clause-listeners : goal.returns-clause-listeners
returns-clause-listeners c = (left _ c.leave.new.self c.self.invariant c.self.view_is
    c.leave.ensures.limit c.args.conn c.remove.ensures.state c.leave.ensures.lanes).seen
