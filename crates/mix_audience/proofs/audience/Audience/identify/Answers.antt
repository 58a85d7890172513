use Rattle.std.proofs.Common.{◌∙◌}
use Rattle.mix_audience.proofs.Kept.{as_seen, joined_where_open, masked_all}
use Rattle.mix_audience.proofs.audience.Audience.identify.Goals as goal

-- who is open has joined
pub set_mask-requires : goal.set_mask-requires
set_mask-requires c = record {
  joined = joined_where_open c.args.conn (as_seen _ c.self.invariant c.self.view_is)
      ∙ c.requires.is_there;
}

-- session and lane have the same mask
pub invariant_of-self : goal.invariant_of-self
invariant_of-self c = (masked_all _ c.set_mask.new.self c.self.invariant c.self.view_is
    c.set_mask.ensures.limit c.args.conn c.args.mask c.identify.ensures.state
    c.set_mask.ensures.lanes).kept

-- and so has the connection
pub returns-clause-listeners : goal.returns-clause-listeners
returns-clause-listeners c = (masked_all _ c.set_mask.new.self c.self.invariant c.self.view_is
    c.set_mask.ensures.limit c.args.conn c.args.mask c.identify.ensures.state
    c.set_mask.ensures.lanes).seen
