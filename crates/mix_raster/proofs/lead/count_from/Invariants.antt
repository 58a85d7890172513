use Rattle.std.proofs.Common.{ℕ, ◌≡◌, ◌+◌, ◌<◌, get_or}
use Rattle.mix_raster.proofs.lead.count_from.Given as goal

-- the places so far
abbrev pub invariant-loop-i : goal.invariant-loop-i
invariant-loop-i l = (k : ℕ) → k < l.i → get_or l.table k 0 ≡ l.from + k
