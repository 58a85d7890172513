use Rattle.std.proofs.Common.{Some, None}
use Rattle.mix_audience.proofs.Kept.{cut_all, ends_alone, ends_with}
use Rattle.mix_audience.proofs.audience.Audience.end.Goals as goal

-- who is cut stays beside its session
pub invariant_of-self : goal.invariant_of-self
invariant_of-self c = (cut_all _ c.cut_full.new.self c.self.invariant c.self.view_is
    c.cut_full.ensures.limit None c.cut_full.ensures.lanes).kept

pub invariant_of-self-in-Some : goal.invariant_of-self-in-Some
invariant_of-self-in-Some c = (cut_all _ c.cut_full-in-Some.new.self c.self-in-Some.invariant
    c.self-in-Some.view_is c.cut_full-in-Some.ensures.limit (Some c.in-Some.conn)
    c.cut_full-in-Some.ensures.lanes).kept

-- nobody acted: everybody is cut who is full
pub returns-in-None-clause-listeners : goal.returns-in-None-clause-listeners
returns-in-None-clause-listeners c = rw c.in-None.is (ends_alone c.args.self.now.listeners _
    (cut_all _ c.cut_full.new.self c.self.invariant c.self.view_is c.cut_full.ensures.limit None
    c.cut_full.ensures.lanes).seen)

-- nothing waits for the one that acted, and every other is cut who is full
pub returns-in-Some-clause-listeners : goal.returns-in-Some-clause-listeners
returns-in-Some-clause-listeners c = rw c.in-Some.is (ends_with c.in-Some.conn
    c.args.self.now.listeners c.clear.new.self.listeners _ c.clear.ensures.listeners
    (cut_all _ c.cut_full-in-Some.new.self c.self-in-Some.invariant c.self-in-Some.view_is
    c.cut_full-in-Some.ensures.limit (Some c.in-Some.conn) c.cut_full-in-Some.ensures.lanes).seen)
