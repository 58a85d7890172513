use Rattle.std.proofs.Common.{ℕ, ◌≡◌, ◌<◌, ◌≤◌, get_or, Some}
use Rattle.mix_raster.specs.Axes.{led_by}
use Rattle.mix_raster.proofs.lead.lead_on.Given as goal

-- the places so far are led on, and the others are as they were
abbrev pub invariant-loop-i : goal.invariant-loop-i
invariant-loop-i l = record {
  led : (k u : ℕ) → k < l.i → led_by l.axis (get_or l.fn.table k 0) ≡ Some u →
      get_or l.table k 0 ≡ u;
  left : (k : ℕ) → l.i ≤ k → get_or l.table k 0 ≡ get_or l.fn.table k 0;
}
