use Rattle.std.proofs.Common.{◌≡◌, ℕ, ◌<◌, get_or}
use Rattle.mix_model.specs.Encoding.{luma, pixel_in}
use Rattle.mix_encode.proofs.luma.fill_luma_row.Given as goal

-- the pixels so far
abbrev pub invariant-loop-x : goal.invariant-loop-x
invariant-loop-x l = (k : ℕ) → k < l.x → get_or l.into k 0 ≡ luma (pixel_in l.picture k l.y)
