use Rattle.std.proofs.Common.{ℕ, ◌≡◌, ◌*◌, ◌<◌}
use Rattle.mix_model.specs.Colours.{colour_at, black}
use Rattle.mix_raster.proofs.painting.blacken.Given as goal

-- the pixels so far are black
abbrev pub invariant-loop-pixel : goal.invariant-loop-pixel
invariant-loop-pixel l = (k : ℕ) → k < l.pixel → colour_at l.rgba (4 * k) ≡ black
