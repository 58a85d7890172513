use Rattle.mix_fanout.proofs.Fans.{held_joined}
use Rattle.mix_fanout.proofs.fanout.Fanout.join.Goals as goal

-- a new connection has the room, and holds nothing
pub invariant_of-self-2 : goal.invariant_of-self-2
invariant_of-self-2 c = held_joined c.self.inside.spare c.args.conn c.self.inside.store
    c.self.inside.lanes.items _ c.in_ok-lane.lane c.in_ok-push.ensures.items
    c.in_ok-lane.ensures.value c.self.invariant
