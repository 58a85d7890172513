use Rattle.std.proofs.Common.{ℕ, ◌≡◌, ◌*◌, ◌<◌, get_or}
use Rattle.mix_model.specs.Colours.{colour_at}
use Rattle.mix_raster.specs.Ways.{pixel_led}
use Rattle.mix_raster.proofs.fill.fill_each.Given as goal

-- the pixels so far
abbrev pub invariant-loop-i : goal.invariant-loop-i
invariant-loop-i l = (k : ℕ) → k < l.i → colour_at l.row (4 * k)
    ≡ pixel_led l.draw.settings l.draw.since l.tick l.swap (get_or l.columns k 0) l.line
