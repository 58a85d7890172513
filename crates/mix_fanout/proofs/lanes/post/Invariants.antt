use Rattle.std.proofs.Common.{◌≡◌, ◌≤◌, map, take, drop, ◌++◌}
use Rattle.mix_fanout.specs.Keys.{posted_line, takers}
use Rattle.mix_fanout.proofs.lanes.post.Given as goal

-- so far each is as it becomes and the takers are counted, and the rest is as it was
abbrev pub invariant-loop-lane : goal.invariant-loop-lane
invariant-loop-lane l = record {
  posted : l.lanes ≡ map (posted_line l.key l.bit l.but) (take l.lane-index l.fn.lanes) ++ drop
      l.lane-index l.fn.lanes;
  counted : l.takers ≡ takers l.bit l.but (take l.lane-index l.fn.lanes);
  few : l.takers ≤ l.lane-index;
}
