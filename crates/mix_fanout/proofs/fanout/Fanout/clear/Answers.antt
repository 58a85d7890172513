use Rattle.std.proofs.Common.{map}
use Rattle.mix_fanout.specs.Lanes.{Fans, cleared}
use Rattle.mix_fanout.specs.Keys.{LetGo, cleared_line, keys_at}
use Rattle.mix_fanout.proofs.Held.{held_cleared, seen_cleared}
use Rattle.mix_fanout.proofs.Fans.{held_in_place, seen_in_place, may_let_go}
use Rattle.mix_fanout.proofs.fanout.Fanout.clear.Goals as goal

-- what waits is held
pub release-requires : goal.release-requires
release-requires c = may_let_go c.self.inside.spare c.args.conn c.self.inside.store
    c.self.inside.lanes.items _ c.deref.ensures.value c.self.invariant

-- what is let go waits no more
pub invariant_of-self : goal.invariant_of-self
invariant_of-self c =
    let gone : LetGo c.self.inside.store c.release.new.store
    (keys_at c.args.conn c.self.inside.lanes.items) =
    rw c.deref.ensures.value at c.release.ensures.state in
    held_in_place c.self.inside.lanes (cleared_line c.args.conn) c.clear.new.lanes _
    c.clear.ensures.state c.deref_mut.ensures.value c.self.inside.spare c.release.new.store
    (held_cleared c.self.inside.spare c.args.conn c.self.inside.store c.release.new.store
    c.self.inside.lanes.items c.self.invariant gone)

pub returns-clause-lanes : goal.returns-clause-lanes
returns-clause-lanes c =
    let gone : LetGo c.self.inside.store c.release.new.store
    (keys_at c.args.conn c.self.inside.lanes.items) =
    rw c.deref.ensures.value at c.release.ensures.state in
    seen_in_place c.self.inside.lanes (cleared_line c.args.conn) c.clear.new.lanes _
    c.clear.ensures.state c.deref_mut.ensures.value c.self.inside.store c.release.new.store
    c.self.inside.spare c.self.inside.limit _ c.self.view_is
    (λ (o : Fans). map (cleared c.args.conn) o.lanes)
    (seen_cleared c.self.inside.spare c.args.conn c.self.inside.store c.release.new.store
    c.self.inside.lanes.items c.self.invariant gone)
