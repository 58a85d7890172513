-- Pixels that are repeated in a row.
use Rattle.std.proofs.Common.{◌≡◌, ℕ, ◌<◌, ◌≤◌, ◌+◌, ◌-◌, ◌*◌, ◌/◌, ◌%◌, List, length, get_or}
use Rattle.std.proofs.Common.{ap, ◌∙◌, subst, refl, Bool, true, false, arith}
use Rattle.std.specs.Prelude.{nat_lt}
use native.Mathlib.Nat.{div-add-mod, mod-lt}
use Rattle.std.proofs.lemmas.Nat.{mul-le}
use Rattle.std.proofs.Math.Nat.{le-div_iff_mul-le, div-lt_iff_lt-mul}
use Rattle.mix_model.specs.Colours.{Colour, bytes_of, colour_at}
use Rattle.mix_raster.specs.Spans.{AreRepeated}
use Rattle.mix_raster.proofs.Rows.{colour_by_bytes}

-- what stands once in each of so many places
pub quotient_at : (n k i : ℕ) → 0 < n → k * n ≤ i → i < k * n + n → i / n ≡ k
quotient_at n k i some low high =
    let next : (k + 1) * n ≡ k * n + n = grind arith in
    let least : k ≤ i / n = (le-div_iff_mul-le some).1 (omega (arith, low)) in
    let most : i / n < k + 1 = (div-lt_iff_lt-mul some).1 (omega (arith, next, high)) in
    omega (arith, least, most)

-- the whole spans of a row, and what is left
pub whole_fits : (n count whole : ℕ) → whole ≡ count / n → whole * n ≤ count
whole_fits n count whole is =
    let split : n * (count / n) + count % n ≡ count = div-add-mod count n in
    let turned : (count / n) * n ≡ n * (count / n) = grind arith in
    let same : whole * n ≡ (count / n) * n = ap (λ (w : ℕ). w * n) is in
    omega (arith, split, turned, same)

pub rest_short : (n count whole : ℕ) → 0 < n → whole ≡ count / n → count < whole * n + n
rest_short n count whole some is =
    let split : n * (count / n) + count % n ≡ count = div-add-mod count n in
    let turned : (count / n) * n ≡ n * (count / n) = grind arith in
    let same : whole * n ≡ (count / n) * n = ap (λ (w : ℕ). w * n) is in
    let short : count % n < n = mod-lt count some in
    omega (arith, split, turned, same, short)

pub span_fits : (n k count whole : ℕ) → whole ≡ count / n → k < whole → k * n + n ≤ count
span_fits n k count whole is small =
    let all = whole_fits n count whole is in
    let some : (k + 1) * n ≤ whole * n = mul-le (k + 1) n whole n (omega arith) (omega arith) in
    let next : (k + 1) * n ≡ k * n + n = grind arith in
    omega (arith, all, some, next)

-- where a column of a span leads
pub column_at : (n k i : ℕ) (columns : List ℕ) → 0 < n → AreRepeated n columns → k * n ≤ i →
    i < k * n + n → i < length columns → get_or columns i 0 ≡ get_or columns 0 0 + k
column_at n k i columns some are low high small =
    are.repeated some i small
    ∙ ap (λ (q : ℕ). get_or columns 0 0 + q) (quotient_at n k i some low high)

-- a span more
pub span_more : (f : ℕ → Colour) (at n : ℕ) (color old new : List ℕ) →
    ((i : ℕ) → i < at → colour_at old (4 * i) ≡ f i) →
    ((i : ℕ) → i < n → bytes_of (colour_at new (4 * (at + i))) ≡ color) →
    ((k : ℕ) → k + 4 ≤ 4 * at → colour_at new k ≡ colour_at old k) →
    ((i : ℕ) → at ≤ i → i < at + n → color ≡ bytes_of (f i)) →
    (i : ℕ) → i < at + n → colour_at new (4 * i) ≡ f i
span_more f at n color old new so_far here before is i small = by_place (nat_lt i at) refl where
  by_place : (p : Bool) → nat_lt i at ≡ p → colour_at new (4 * i) ≡ f i
  by_place true test =
      let low : i < at = grind arith in before (4 * i) (omega (arith, low)) ∙ so_far i low
  by_place false test =
      let low : at ≤ i = grind arith in
      let place : at + (i - at) ≡ i = omega (arith, low) in
      let P : ℕ → Type 0 = λ k. bytes_of (colour_at new (4 * k)) ≡ color in
      let bytes : bytes_of (colour_at new (4 * i)) ≡ color = subst P place (here (i - at) (omega (arith, low, small))) in
      colour_by_bytes _ _ (bytes ∙ is i low small)

-- the pixels of the first spans of a row, and of one more
pub spans_more : (n k start c0 next : ℕ) (columns pixels color old new : List ℕ) → 0 < n →
    AreRepeated n columns → k * n + n ≤ length columns → c0 ≡ get_or columns 0 0 → next ≡ k + 1 →
    color ≡ bytes_of (colour_at pixels (4 * (start + c0 + k))) →
    ((i : ℕ) → i < k * n → colour_at old (4 * i)
    ≡ colour_at pixels (4 * (start + get_or columns i 0))) →
    ((i : ℕ) → i < n → bytes_of (colour_at new (4 * (k * n + i))) ≡ color) →
    ((j : ℕ) → j + 4 ≤ 4 * (k * n) → colour_at new j ≡ colour_at old j) →
    (i : ℕ) → i < next * n → colour_at new (4 * i)
    ≡ colour_at pixels (4 * (start + get_or columns i 0))
spans_more n k start c0 next columns pixels color old new some are fits first more is so_far here before
    i small =
    let all : next * n ≡ k * n + n = ap (λ (m : ℕ). m * n) more ∙ grind arith in
    span_more (λ i. colour_at pixels (4 * (start + get_or columns i 0))) (k * n) n color old new
    so_far here before
    (λ i low high.
    let at : get_or columns i 0 ≡ get_or columns 0 0 + k =
    column_at n k i columns some are low high (omega (arith, fits, high)) in
    let place : start + c0 + k ≡ start + get_or columns i 0 = omega (arith, at, first) in
    is ∙ ap (λ (p : ℕ). bytes_of (colour_at pixels (4 * p))) place)
    i (omega (arith, small, all))

-- and of the last one, of which a part is seen
pub spans_end : (n whole count start c0 : ℕ) (columns pixels color old new : List ℕ) → 0 < n →
    AreRepeated n columns → count ≡ length columns → whole ≡ count / n → c0 ≡ get_or columns 0 0 →
    color ≡ bytes_of (colour_at pixels (4 * (start + c0 + whole))) →
    ((i : ℕ) → i < whole * n → colour_at old (4 * i)
    ≡ colour_at pixels (4 * (start + get_or columns i 0))) →
    ((i : ℕ) → i < count - whole * n → bytes_of (colour_at new (4 * (whole * n + i))) ≡ color) →
    ((j : ℕ) → j + 4 ≤ 4 * (whole * n) → colour_at new j ≡ colour_at old j) →
    (i : ℕ) → i < length columns → colour_at new (4 * i)
    ≡ colour_at pixels (4 * (start + get_or columns i 0))
spans_end n whole count start c0 columns pixels color old new some are long split first is so_far here
    before i small =
    let all = whole_fits n count whole split in
    let short = rest_short n count whole some split in
    span_more (λ i. colour_at pixels (4 * (start + get_or columns i 0))) (whole * n)
    (count - whole * n) color old new so_far here before
    (λ i low high.
    let at : get_or columns i 0 ≡ get_or columns 0 0 + whole =
    column_at n whole i columns some are low (omega (arith, all, short, high))
    (omega (arith, all, high, long)) in
    let place : start + c0 + whole ≡ start + get_or columns i 0 = omega (arith, at, first) in
    is ∙ ap (λ (p : ℕ). bytes_of (colour_at pixels (4 * p))) place)
    i (omega (arith, small, all, long))
