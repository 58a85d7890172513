use Rattle.std.proofs.Common.{◌∙◌, sym}
use Rattle.mix_audience.proofs.Each.{emptied_none}
use Rattle.mix_audience.proofs.Kept.{as_seen, joined_where_open, cleared_all}
use Rattle.mix_audience.proofs.audience.Audience.clear.Goals as goal

-- the lanes stay beside the sessions
pub invariant_of-self : goal.invariant_of-self
invariant_of-self c = (cleared_all _ c.clear.new.self c.self.invariant c.self.view_is
    c.clear.ensures.limit c.args.conn c.clear.ensures.lanes).kept

-- nothing waits for the connection
pub returns-then-has-clause-listeners : goal.returns-then-has-clause-listeners
returns-then-has-clause-listeners c = (cleared_all _ c.clear.new.self c.self.invariant
    c.self.view_is c.clear.ensures.limit c.args.conn c.clear.ensures.lanes).seen

-- where it isn't open, all stays
pub returns-else-has-clause-listeners : goal.returns-else-has-clause-listeners
returns-else-has-clause-listeners c = sym (emptied_none c.args.conn c.args.self.now.listeners
    (sym (joined_where_open c.args.conn (as_seen _ c.self.invariant c.self.view_is))
    ∙ sym c.has.ensures.value ∙ c.if-has.false))
