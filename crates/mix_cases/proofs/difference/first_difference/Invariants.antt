-- what was gone through is the same in both, and so is what stands before the line
use Rattle.std.proofs.Common.{◌≡◌, take}
use Rattle.mix_cases.proofs.difference.first_difference.Given as goal

abbrev pub invariant-loop-at : goal.invariant-loop-at
invariant-loop-at l =
    (take l.at l.wanted ≡ take l.at l.written) × (take l.start l.wanted ≡ take l.start l.written)
