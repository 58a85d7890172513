use Rattle.std.proofs.Common.{ℕ, ◌≡◌, ◌*◌, ◌<◌}
use Rattle.mix_model.specs.Colours.{colour_at}
use Rattle.mix_raster.proofs.span.are_opaque.Given as goal

-- the pixels so far
abbrev pub invariant-loop-i : goal.invariant-loop-i
invariant-loop-i l = (k : ℕ) → k < l.i → (colour_at l.row (4 * k)).alpha ≡ 255
