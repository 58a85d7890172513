use Rattle.std.proofs.Common.{◌≡◌, map, take, drop, ◌++◌}
use Rattle.mix_fanout.specs.Keys.{with_room}
use Rattle.mix_fanout.proofs.lanes.reserve.Given as goal

-- so far each has the room, and the rest is as it was
abbrev pub invariant-loop-lane : goal.invariant-loop-lane
invariant-loop-lane l = l.lanes ≡ map (with_room l.room) (take l.lane-index l.fn.lanes) ++ drop
    l.lane-index l.fn.lanes
