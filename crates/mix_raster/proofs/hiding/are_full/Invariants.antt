use Rattle.std.proofs.Common.{ℕ, ◌≡◌, ◌*◌, ◌<◌}
use Rattle.mix_model.specs.Colours.{colour_at}
use Rattle.mix_raster.proofs.hiding.are_full.Given as goal

-- the pixels so far
abbrev pub invariant-loop-k : goal.invariant-loop-k
invariant-loop-k l = (j : ℕ) → j < l.k → (colour_at l.pixels (4 * j)).alpha ≡ 255
