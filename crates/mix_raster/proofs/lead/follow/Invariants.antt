use Rattle.std.proofs.Common.{ℕ, ◌≡◌, ◌<◌, get_or, drop, Some}
use Rattle.mix_raster.specs.Axes.{axis_reached}
use Rattle.mix_raster.proofs.lead.follow.Given as goal

-- the remaining steps lead from here to where all of them lead
abbrev pub invariant-loop-step : goal.invariant-loop-step
invariant-loop-step l = (i u : ℕ) → i < l.count →
    axis_reached l.down l.steps (get_or l.fn.table i 0) ≡ Some u →
    axis_reached l.goes_down (drop l.step-index l.steps) (get_or l.table i 0) ≡ Some u
