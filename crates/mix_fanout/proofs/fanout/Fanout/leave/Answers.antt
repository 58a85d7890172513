use Rattle.std.proofs.Common.{ap, ◌∙◌, filter, map, not}
use Rattle.mix_fanout.specs.Lanes.{Fans, is_lane}
use Rattle.mix_fanout.specs.Keys.{LetGo, keys_at, lane_of}
use Rattle.mix_fanout.proofs.Held.{held_left, seen_left}
use Rattle.mix_fanout.proofs.Fans.{may_let_go}
use Rattle.mix_fanout.proofs.fanout.Fanout.leave.Goals as goal

-- what waits is held
pub release-requires : goal.release-requires
release-requires c = may_let_go c.self.inside.spare c.args.conn c.self.inside.store
    c.self.inside.lanes.items _ c.deref.ensures.value c.self.invariant

-- what is let go waits no more
pub invariant_of-self : goal.invariant_of-self
invariant_of-self c =
    let gone : LetGo c.self.inside.store c.release.new.store
    (keys_at c.args.conn c.self.inside.lanes.items) =
    rw c.deref.ensures.value at c.release.ensures.state in
    rw c.leave.ensures.state (held_left c.self.inside.spare c.args.conn c.self.inside.store
    c.release.new.store c.self.inside.lanes.items c.self.invariant gone)

pub returns-clause-lanes : goal.returns-clause-lanes
returns-clause-lanes c =
    let gone : LetGo c.self.inside.store c.release.new.store
    (keys_at c.args.conn c.self.inside.lanes.items) =
    rw c.deref.ensures.value at c.release.ensures.state in
    ap (map (lane_of c.release.new.store)) c.leave.ensures.state ∙
    seen_left c.self.inside.spare c.args.conn c.self.inside.store c.release.new.store
    c.self.inside.lanes.items c.self.invariant gone ∙
    ap (λ (o : Fans). filter (λ lane. not (is_lane c.args.conn lane)) o.lanes) c.self.view_is
