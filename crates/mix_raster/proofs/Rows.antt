-- A row of pixels, one by one.
use Rattle.std.proofs.Common.{◌≡◌, ℕ, suc, ◌<◌, ◌≤◌, ◌+◌, ◌*◌, List, ap, ◌∙◌, arith}
use Rattle.std.proofs.lemmas.Nat.{mul-le}
use borrow.Author.Count.{below_more}
use Rattle.mix_model.specs.Colours.{Colour, bytes_of, colour_at}

-- a colour is known by its bytes
pub colour_by_bytes : (a b : Colour) → bytes_of a ≡ bytes_of b → a ≡ b
colour_by_bytes a b is = ap (λ bytes. colour_at bytes 0) is

-- a row whose first pixels are known, and one more
pub pixel_more : (f : ℕ → Colour) (x : ℕ) (old new : List ℕ) →
    ((k : ℕ) → k < x → colour_at old (4 * k) ≡ f k) →
    bytes_of (colour_at new (4 * x)) ≡ bytes_of (f x) →
    ((k : ℕ) → k + 4 ≤ 4 * x → colour_at new k ≡ colour_at old k) →
    (k : ℕ) → k < x + 1 → colour_at new (4 * k) ≡ f k
pixel_more f x old new so_far here before k to =
    let P : ℕ → Type 0 = λ z. colour_at new (4 * z) ≡ f z in
    below_more P x (λ z small. before (4 * z) (omega arith) ∙ so_far z small)
    (colour_by_bytes _ _ here) k to

-- a row above ends before a row below begins
pub rows_apart : (w j y : ℕ) → j < y → 4 * w * j + 4 * w ≤ 4 * w * y
rows_apart w j y h =
    let k = mul-le (4 * w) (suc j) (4 * w) y (omega arith) (omega arith) in
    let e : 4 * w * suc j ≡ 4 * w * j + 4 * w = grind arith in omega (arith, k, e)
