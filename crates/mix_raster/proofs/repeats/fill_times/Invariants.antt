use Rattle.std.proofs.Common.{ℕ, ◌≡◌, ◌+◌, ◌*◌, ◌<◌, get_or}
use Rattle.mix_model.specs.Colours.{colour_at}
use Rattle.mix_raster.proofs.repeats.fill_times.Given as goal

-- the spans so far
abbrev pub invariant-loop-k : goal.invariant-loop-k
invariant-loop-k l = (i : ℕ) → i < l.k * l.times → colour_at l.row (4 * i)
    ≡ colour_at l.pixels (4 * (l.start + get_or l.columns i 0))
