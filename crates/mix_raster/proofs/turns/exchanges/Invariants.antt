use Rattle.std.proofs.Common.{◌≡◌, drop}
use Rattle.mix_raster.specs.Axes.{exchanged, exchanged_by}
use Rattle.mix_raster.proofs.turns.exchanges.Given as goal

-- so far, and then the rest of the steps
abbrev pub invariant-loop-step : goal.invariant-loop-step
invariant-loop-step l = exchanged_by l.swap (exchanged (drop l.step-index l.steps)) ≡ exchanged l.steps
