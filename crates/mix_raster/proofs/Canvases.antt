-- A canvas pixel by pixel.
use Rattle.std.proofs.Common.{◌≡◌, ℕ, zero, suc, ◌<◌, ◌≤◌, ◌+◌, ◌*◌, List, [], ◌∷◌, ◌++◌, length}
use Rattle.std.proofs.Common.{get_or}
use Rattle.std.proofs.Common.{take, drop, ap, subst, refl, arith}
use Rattle.std.proofs.lemmas.Simd.{get_or-zip2}
use Rattle.mix_model.specs.Colours.{Colour, colour_at, pixel_at}
use Rattle.mix_model.specs.Blending.{faded, faded_colour, bytes_faded}
use Rattle.mix_raster.specs.Fills.{IsFilled}
use Rattle.mix_raster.proofs.Rows.{rows_apart}

-- a vector whose whole slice was written
kept : (n : ℕ) (new rest : List ℕ) → length new ≡ n → take n (new ++ rest) ≡ new
kept zero [] rest is = refl
kept (suc n) (x ∷ new) rest is = ap (λ xs. x ∷ xs) (kept n new rest (omega arith))
kept n new rest is = absurd (omega arith)

pub written : (n : ℕ) (new old : List ℕ) → length new ≡ n →
    take n (new ++ drop (length new) old) ≡ new
written n new old is = kept n new (drop (length new) old) is

-- a pixel of a canvas is one of its pixels in a row
pub pixel_inside : (w h x y : ℕ) → x < w → y < h → 4 * w * y + 4 * x + 4 ≤ 4 * (w * h)
pixel_inside w h x y left up =
    let apart = rows_apart w y h up in
    let same : 4 * w * h ≡ 4 * (w * h) = grind arith in omega (arith, apart, same)

pub filled_row : (size : ℕ × ℕ) (bytes : List ℕ) (colour : Colour) →
    ((k : ℕ) → k < size.0 * size.1 → colour_at bytes (4 * k) ≡ colour) →
    IsFilled size bytes (λ x y. colour)
filled_row size bytes colour each x y left up =
    let inside = pixel_inside size.0 size.1 x y left up in
    let place : 4 * (size.0 * y + x) ≡ 4 * size.0 * y + 4 * x = grind arith in
    let P : ℕ → Type 0 = λ k. colour_at bytes k ≡ colour in
    subst P place (each (size.0 * y + x) (omega (arith, inside, place)))

-- a byte of a fade, and a colour
module _ (t n : ℕ) (xs ys : List ℕ) (same : length xs ≡ length ys) where
  byte_faded : (i : ℕ) → i < length xs →
      get_or (bytes_faded t n xs ys) i 0 ≡ faded t n (get_or xs i 0) (get_or ys i 0)
  byte_faded i h = get_or-zip2 (faded t n) xs ys i 0 0 0 h (omega arith)

  colour_faded : (i : ℕ) → i + 4 ≤ length xs → colour_at (bytes_faded t n xs ys) i
      ≡ faded_colour t n (colour_at xs i) (colour_at ys i)
  colour_faded i h = rw (
    byte_faded i (omega arith),
    byte_faded (i + 1) (omega arith),
    byte_faded (i + 2) (omega arith),
    byte_faded (i + 3) (omega arith),
  ) refl

pub canvas_faded : (t n : ℕ) (size : ℕ × ℕ) (xs ys : List ℕ) →
    length xs ≡ 4 * (size.0 * size.1) → length ys ≡ 4 * (size.0 * size.1) →
    IsFilled size (bytes_faded t n xs ys) (λ x y.
    faded_colour t n (pixel_at size.0 xs x y) (pixel_at size.0 ys x y))
canvas_faded t n size xs ys long long_to x y left up =
    let inside = pixel_inside size.0 size.1 x y left up in
    let same : length xs ≡ length ys = omega arith in
    colour_faded t n xs ys same (4 * size.0 * y + 4 * x) (omega (arith, inside))
