use Rattle.std.proofs.Common.{◌-◌, length}
use Rattle.mix_lanes.proofs.Rows.{IsLaid}
use Rattle.mix_lanes.proofs.over.over_by.Given as goal

-- the pixels so far
abbrev pub invariant-fours : goal.invariant-fours
invariant-fours g l = IsLaid g.M.Mode.blend l.fn.below l.fn.above l.at l.below

abbrev pub decreases-fours : goal.decreases-fours
decreases-fours g l = length l.fn.above - l.at

abbrev pub invariant-rest : goal.invariant-rest
invariant-rest g l = IsLaid g.M.Mode.blend l.fn.below l.fn.above l.at l.below

abbrev pub decreases-rest : goal.decreases-rest
decreases-rest g l = length l.fn.above - l.at
