use Rattle.std.proofs.Common.{ℕ, ◌≡◌, ◌+◌, ◌*◌, ◌<◌, ◌≤◌}
use Rattle.mix_model.specs.Colours.{bytes_of, colour_at}
use Rattle.mix_raster.proofs.repeats.put_times.Given as goal

-- the pixels so far, and those before
abbrev pub invariant-loop-i : goal.invariant-loop-i
invariant-loop-i l = record {
  here : (j : ℕ) → j < l.i → bytes_of (colour_at l.row (4 * (l.first + j))) ≡ l.pixel;
  before : (k : ℕ) → k + 4 ≤ 4 * l.first → colour_at l.row k ≡ colour_at l.fn.row k;
}
