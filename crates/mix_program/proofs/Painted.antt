-- What is painted is a whole picture.
use Rattle.std.proofs.Common.{◌≡◌, ℕ, zero, suc, ◌+◌, ◌*◌, List, length, flat_map, refl, sym, subst}
use Rattle.std.proofs.Common.{arith, length-append, eq-eqb, IsTrue}
use Rattle.std.specs.List.{range_with_len}
use Rattle.mix_model.specs.declared.draw.Shot.{Shot}
use Rattle.mix_model.specs.declared.picture.Picture.{Picture}
use Rattle.mix_model.specs.Colours.{Colour, bytes_of}
use Rattle.mix_model.specs.Pictures.{filled, is_picture}
use Rattle.mix_model.specs.Plans.{painted, shot_colour}

-- the bytes of one row, from a column on, and those of rows, from one on
abbrev row_bytes : (ℕ → Colour) → ℕ → ℕ → List ℕ
row_bytes c low n = flat_map (λ x. bytes_of (c x)) (range_with_len low n)

abbrev rows_bytes : (ℕ → ℕ → Colour) → ℕ → ℕ → ℕ → List ℕ
rows_bytes colour w low h =
    flat_map (λ y. row_bytes (λ x. colour x y) 0 w) (range_with_len low h)

row_long : (c : ℕ → Colour) (low n : ℕ) → length (row_bytes c low n) ≡ 4 * n
row_long c low zero = refl
row_long c low (suc n) = let rest = row_long c (low + 1) n in omega (arith, rest)

rows_long : (colour : ℕ → ℕ → Colour) (w low h : ℕ) →
    length (rows_bytes colour w low h) ≡ 4 * (w * h)
rows_long colour w low zero = let none : w * 0 ≡ 0 = grind arith in omega (arith, none)
rows_long colour w low (suc h) =
    let here = row_long (λ x. colour x low) 0 w in
    let rest = rows_long colour w (low + 1) h in
    let more : w * suc h ≡ w * h + w = grind arith in
    let both = length-append (row_bytes (λ x. colour x low) 0 w)
    (rows_bytes colour w (low + 1) h) in
    omega (arith, here, rest, more, both)

-- a picture that is filled has four bytes for each pixel
whole_filling : (canvas : ℕ × ℕ) (colour : ℕ → ℕ → Colour) →
    IsTrue (is_picture (filled canvas colour))
whole_filling canvas colour = eq-eqb _ _ (rows_long colour canvas.0 0 canvas.1)

-- and so has one that is painted
pub whole_painting : (shot : Shot) (tick : ℕ) (canvas : ℕ × ℕ) (picture : Picture) →
    picture ≡ painted shot tick canvas → IsTrue (is_picture picture)
unfolding painted
whole_painting shot tick canvas picture is =
    subst (λ (p : Picture). IsTrue (is_picture p)) (sym is)
    (whole_filling canvas (shot_colour shot tick))
