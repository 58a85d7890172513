use Rattle.std.proofs.Common.{◌-◌, length}
use Rattle.mix_lanes.specs.Fades.{IsFadedTo}
use Rattle.mix_lanes.proofs.fading.fade_sixteens.Given as goal

-- the bytes so far
abbrev pub invariant-sixteens : goal.invariant-sixteens
invariant-sixteens l = IsFadedTo l.t l.n l.fn.bytes l.fn.to l.at l.bytes

abbrev pub decreases-sixteens : goal.decreases-sixteens
decreases-sixteens l = length l.fn.to - l.at
