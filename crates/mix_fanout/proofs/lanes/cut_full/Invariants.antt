use Rattle.std.proofs.Common.{◌≡◌, map, take, drop, ◌++◌}
use Rattle.mix_fanout.specs.Keys.{cut_line}
use Rattle.mix_fanout.proofs.lanes.cut_full.Given as goal

-- so far each is as it becomes, and the rest is as it was
abbrev pub invariant-loop-lane : goal.invariant-loop-lane
invariant-loop-lane l = l.lanes ≡ map (cut_line l.limit l.but) (take l.lane-index l.fn.lanes) ++
    drop l.lane-index l.fn.lanes
