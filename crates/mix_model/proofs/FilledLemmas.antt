-- Bytes that have the colour of each pixel.
use Rattle.std.proofs.Common.{◌≡◌, ℕ, zero, suc, ◌<◌, ◌≤◌, ◌+◌, ◌*◌, List, [], ◌∷◌, ◌++◌, length}
use Rattle.std.proofs.Common.{get_or, take, drop, flat_map, refl, sym, ap, arith, ◌∙◌}
use Rattle.std.specs.List.{range_with_len}
use Rattle.std.proofs.lemmas.List.{get_or-take, get_or-drop, take-append-drop, length-drop}
use Rattle.std.proofs.lemmas.List.{length-take-le}
use Rattle.mix_model.specs.Colours.{Colour, bytes_of, colour_at, pixel_at}
use Rattle.mix_model.specs.Pictures.{filled}

-- four bytes, and the rest
colour_after : (r g b a : ℕ) (rest : List ℕ) (k m : ℕ) → m ≡ 4 * (k + 1) →
    colour_at (r ∷ (g ∷ (b ∷ (a ∷ rest)))) m ≡ colour_at rest (4 * k)
colour_after r g b a rest k m is =
    let first : m ≡ suc (suc (suc (suc (4 * k)))) = omega (arith, is) in
    let second : m + 1 ≡ suc (suc (suc (suc (4 * k + 1)))) = omega (arith, is) in
    let third : m + 2 ≡ suc (suc (suc (suc (4 * k + 2)))) = omega (arith, is) in
    let fourth : m + 3 ≡ suc (suc (suc (suc (4 * k + 3)))) = omega (arith, is) in
    rw (second, third, fourth, first) refl

-- a row that has these colours, counted from one on
pub row_filled : (c : ℕ → Colour) (n low : ℕ) (bytes : List ℕ) → length bytes ≡ 4 * n →
    ((k : ℕ) → k < n → colour_at bytes (4 * k) ≡ c (low + k)) →
    bytes ≡ flat_map (λ x. bytes_of (c x)) (range_with_len low n)
row_filled c zero low [] long same = refl
row_filled c (suc n) low (r ∷ (g ∷ (b ∷ (a ∷ rest)))) long same =
    let start : low + 0 ≡ low = omega arith in
    let here : bytes_of (colour_at (r ∷ (g ∷ (b ∷ (a ∷ rest)))) 0) ≡ bytes_of (c low) =
    ap bytes_of (same 0 (omega arith)) ∙ ap (λ z. bytes_of (c z)) start in
    let others : rest ≡ flat_map (λ x. bytes_of (c x)) (range_with_len (low + 1) n) =
    row_filled c n (low + 1) rest (omega (arith, long)) (λ k below.
    let next : low + (k + 1) ≡ low + 1 + k = omega arith in
    sym (colour_after r g b a rest k (4 * (k + 1)) refl)
    ∙ same (k + 1) (omega (arith, below)) ∙ ap c next) in
    ap (λ xs. xs ++ rest) here
    ∙ ap (λ ys. bytes_of (c low) ++ ys) others
row_filled c n low bytes long same = absurd (omega (arith, long))

-- colours are one where their bytes are
colour_same : (xs ys : List ℕ) (i j : ℕ) →
    ((m : ℕ) → m < 4 → get_or xs (i + m) 0 ≡ get_or ys (j + m) 0) → colour_at xs i ≡ colour_at ys j
colour_same xs ys i j same =
    let zero_i : i + 0 ≡ i = omega arith in
    let zero_j : j + 0 ≡ j = omega arith in
    let first : get_or xs i 0 ≡ get_or ys j 0 =
    ap (λ n. get_or xs n 0) (sym zero_i) ∙ same 0 (omega arith) ∙ ap (λ n. get_or ys n 0) zero_j in
    rw (first, same 1 (omega arith), same 2 (omega arith), same 3 (omega arith)) refl

-- the first row of a canvas, and the rows after it
module _ (w side : ℕ) (bytes : List ℕ) (wide : side ≡ 4 * w) where
  first_row : (k : ℕ) → k < w → colour_at (take side bytes) (4 * k) ≡ pixel_at w bytes k 0
  first_row k below = colour_same (take side bytes) bytes (4 * k) (4 * w * 0 + 4 * k) (λ m few.
      let place : 4 * k + m ≡ 4 * w * 0 + 4 * k + m = omega arith in
      get_or-take side bytes (4 * k + m) 0 (omega (arith, wide, below, few))
      ∙ ap (λ n. get_or bytes n 0) place)

  later_row : (x y : ℕ) → pixel_at w (drop side bytes) x y ≡ pixel_at w bytes x (y + 1)
  later_row x y = colour_same (drop side bytes) bytes (4 * w * y + 4 * x)
      (4 * w * (y + 1) + 4 * x) (λ m few.
      let more : 4 * w * (y + 1) ≡ 4 * w * y + 4 * w = grind arith in
      let place : side + (4 * w * y + 4 * x + m) ≡ 4 * w * (y + 1) + 4 * x + m =
      omega (arith, wide, more) in
      get_or-drop side bytes (4 * w * y + 4 * x + m) 0 ∙ ap (λ n. get_or bytes n 0) place)

-- rows that have these colours, counted from one on
rows_filled : (colour : ℕ → ℕ → Colour) (w h low : ℕ) (bytes : List ℕ) →
    length bytes ≡ 4 * (w * h) →
    ((x y : ℕ) → x < w → y < h → pixel_at w bytes x y ≡ colour x (low + y)) →
    bytes ≡ flat_map (λ y. flat_map (λ x. bytes_of (colour x y)) (range_with_len 0 w))
    (range_with_len low h)
rows_filled colour w zero low [] long same = refl
rows_filled colour w zero low (b ∷ bytes) long same =
    let none : w * 0 ≡ 0 = grind arith in absurd (omega (arith, long, none))
rows_filled colour w (suc h) low bytes long same =
    let side : ℕ = 4 * w in
    let more : w * suc h ≡ w * h + w = grind arith in
    let enough : side ≤ length bytes = omega (arith, long, more) in
    let start : low + 0 ≡ low = omega arith in
    let here : take side bytes ≡ flat_map (λ x. bytes_of (colour x low)) (range_with_len 0 w) =
    row_filled (λ x. colour x low) w 0 (take side bytes) (length-take-le side bytes enough)
    (λ k below.
    let counted : k ≡ 0 + k = omega arith in
    first_row w side bytes refl k below ∙ same k 0 below (omega arith)
    ∙ ap (colour k) start ∙ ap (λ n. colour n low) counted) in
    let rest : length (drop side bytes) ≡ 4 * (w * h) =
    length-drop side bytes ∙ omega (arith, long, more) in
    let others = rows_filled colour w h (low + 1) (drop side bytes) rest (λ x y left low_y.
    let next : low + (y + 1) ≡ low + 1 + y = omega arith in
    later_row w side bytes refl x y ∙ same x (y + 1) left (omega (arith, low_y))
    ∙ ap (colour x) next) in
    sym (take-append-drop side bytes)
    ∙ ap (λ xs. xs ++ drop side bytes) here
    ∙ ap (λ ys. flat_map (λ x. bytes_of (colour x low)) (range_with_len 0 w) ++ ys) others

pub filled_by_pixels : (canvas : ℕ × ℕ) (colour : ℕ → ℕ → Colour) (rgba : List ℕ) →
    length rgba ≡ 4 * (canvas.0 * canvas.1) →
    ((x y : ℕ) → x < canvas.0 → y < canvas.1 → pixel_at canvas.0 rgba x y ≡ colour x y) →
    rgba ≡ (filled canvas colour).rgba
filled_by_pixels canvas colour rgba long same =
    rows_filled colour canvas.0 canvas.1 0 rgba long (λ x y left top.
    let counted : y ≡ 0 + y = omega arith in same x y left top ∙ ap (colour x) counted)
