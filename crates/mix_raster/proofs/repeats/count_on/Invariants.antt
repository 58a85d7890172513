use Rattle.std.proofs.Common.{ℕ, ◌≡◌, ◌+◌, ◌/◌, ◌<◌, get_or}
use Rattle.mix_raster.proofs.repeats.count_on.Given as goal

-- the places so far
abbrev pub invariant-loop-i : goal.invariant-loop-i
invariant-loop-i l = (j : ℕ) → j < l.i →
    get_or l.places j 0 ≡ get_or l.places 0 0 + j / l.times
