use Rattle.std.proofs.Common.{ℕ, ◌≡◌, ◌*◌, ◌<◌}
use Rattle.mix_model.specs.Colours.{bytes_of, colour_at}
use Rattle.mix_raster.proofs.fill.fill_alike.Given as goal

-- the pixels so far
abbrev pub invariant-loop-i : goal.invariant-loop-i
invariant-loop-i l = (k : ℕ) → k < l.i → bytes_of (colour_at l.row (4 * k)) ≡ l.color
