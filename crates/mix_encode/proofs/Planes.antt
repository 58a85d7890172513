-- Planes, row by row.
use Rattle.std.proofs.Common.{◌≡◌, ℕ, ◌+◌, ◌*◌, ◌≤◌, ◌<◌, List, ◌++◌, length, take, map}
use Rattle.std.proofs.Common.{ap, sym, ◌∙◌, arith}
use Rattle.std.specs.List.{range_with_len}
use Rattle.std.proofs.lemmas.List.FromFn.{length-map-range_with_len}
use Rattle.std.proofs.lemmas.Nat.{row_fits_turned}
use Rattle.std.proofs.lemmas.Slice.{take-put_mid}
use borrow.Rule.Slice.PartMut.{put_mid}
use Rattle.mix_model.specs.Encoding.{plane}
use Rattle.mix_encode.proofs.Counting.{pieces_more}

-- a row ends within its plane
pub row_inside : (width height y : ℕ) → y < height → width * y + width ≤ width * height
row_inside width height y below =
    let fits = row_fits_turned y width width height below (omega arith) in
    let turned : y * width ≡ width * y = grind arith in omega (arith, fits, turned)

-- the rows of a plane above one, and that one written below them
pub row_more : (value : ℕ → ℕ → ℕ) (width y size : ℕ) (old row : List ℕ) →
    width * y ≤ length old → row ≡ map (λ x. value x y) (range_with_len 0 width) →
    take (width * y) old ≡ plane width y value →
    take (width * (y + 1)) (put_mid (width * y) size old row) ≡ plane width (y + 1) value
row_more value width y size old row room here above =
    let long : length row ≡ width = ap length here
    ∙ length-map-range_with_len (λ x. value x y) 0 width in
    let more : width * (y + 1) ≡ width * y + width = grind arith in
    take-put_mid (width * y) size old row (width * (y + 1)) (omega (arith, long, more)) room
    ∙ ap (λ rows. rows ++ row) above
    ∙ ap (λ end. plane width y value ++ end) here
    ∙ sym (pieces_more (λ k. map (λ x. value x k) (range_with_len 0 width)) y)
