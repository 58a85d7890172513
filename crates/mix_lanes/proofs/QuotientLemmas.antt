-- Quotients by multiplication, and the sums of a fade.
use Rattle.std.proofs.Common.{◌≡◌, ℕ, zero, suc, ◌<◌, ◌≤◌, ◌+◌, ◌-◌, ◌*◌, ◌/◌, ◌%◌, List, [], ◌∷◌, length, map}
use Rattle.std.proofs.Common.{arith, refl, ap, sym, ◌∙◌}
use native.Mathlib.Nat.{div-add-mod, mod-lt}
use Rattle.std.proofs.lemmas.Nat.{mul-le}
use Rattle.std.proofs.Math.Nat.{le-div_iff_mul-le, div-lt_iff_lt-mul}
use Rattle.std.specs.Prelude.{replicate}
use Rattle.std.specs.Simd.Lanes.{zip2, Each1}
use Rattle.mix_model.specs.Blending.{faded}
use Rattle.mix_lanes.specs.Quotients.{weighted}
use Rattle.mix_lanes.proofs.LaneLemmas.{Small}
use Rattle.mix_lanes.proofs.Sums.{unwrapped, unwrapped_wide}

-- where n times m falls short of 2^24 by a rest below n, a product with m + 1 has the quotient by n
product_divides : (n m rest q r : ℕ) → n ≤ 256 → 65536 ≤ m → rest < n → r < n → q ≤ 255 →
    n * m + rest ≡ 16777216 → (n * q + r) * (m + 1) / 16777216 ≡ q
product_divides n m rest q r few large short low small whole =
    let parts : q * (n * m + rest) ≡ q * 16777216 = ap (λ z. q * z) whole in
    let one : q * rest ≤ q * n = mul-le q rest q n (omega arith) (omega arith) in
    let other : (r + 1) * m ≤ n * m = mul-le (r + 1) m n m (omega arith) (omega arith) in
    let third : n * q ≤ n * 255 = mul-le n q n 255 (omega arith) small in
    omega (arith, parts, one, other, third)

large : (n : ℕ) → 0 < n → n ≤ 256 → 65536 ≤ 16777216 / n
large n some few = (le-div_iff_mul-le some).1 (omega arith)

quotient_small : (n x : ℕ) → 0 < n → x ≤ 255 * n + n / 2 → x / n ≤ 255
quotient_small n x some small =
    let below : x / n < 256 = (div-lt_iff_lt-mul some).1 (omega arith) in omega arith

pub divides : (n x : ℕ) → 0 < n → n ≤ 256 → x ≤ 255 * n + n / 2 →
    x * (16777216 / n + 1) / 16777216 ≡ x / n
divides n x some few small =
    let rest : n * (16777216 / n) + 16777216 % n ≡ 16777216 = div-add-mod 16777216 n in
    let split : n * (x / n) + x % n ≡ x = div-add-mod x n in
    ap (λ z. z * (16777216 / n + 1) / 16777216) (sym split)
    ∙ product_divides n (16777216 / n) (16777216 % n) (x / n) (x % n) few (large n some few)
    (mod-lt 16777216 some) (mod-lt x some) (quotient_small n x some small) rest

-- the product fits 32 bits
fits_by : (n m x : ℕ) → n ≤ 256 → n * m ≤ 16777216 → x ≤ 255 * n + n / 2 → x * (m + 1) < 4294967296
fits_by n m x few whole small =
    let one : x * (m + 1) ≤ (255 * n + n / 2) * (m + 1) =
    mul-le x (m + 1) (255 * n + n / 2) (m + 1) small (omega arith) in
    let half : 2 * (n / 2) * m ≤ n * m = mul-le (2 * (n / 2)) m n m (omega arith) (omega arith) in
    omega (arith, one, half)

pub fits : (n x : ℕ) → 0 < n → n ≤ 256 → x ≤ 255 * n + n / 2 →
    x * (16777216 / n + 1) < 4294967296
fits n x some few small =
    let rest : n * (16777216 / n) + 16777216 % n ≡ 16777216 = div-add-mod 16777216 n in
    fits_by n (16777216 / n) x few (omega (arith, rest)) small

-- the sums of a fade
pub weighted_small : (t n x y : ℕ) → t < n → x ≤ 255 → y ≤ 255 → weighted t n x y ≤ 255 * n + n / 2
weighted_small t n x y h p q =
    let one : (n - t) * x ≤ (n - t) * 255 = mul-le (n - t) x (n - t) 255 (omega arith) p in
    let other : t * y ≤ t * 255 = mul-le t y t 255 (omega arith) q in
    omega (arith, one, other)

pub weighted_is : (t n x y : ℕ) → t < n → n ≤ 256 → x ≤ 255 → y ≤ 255 →
    (((n - t) * x % 65536 + t * y % 65536) % 65536 + n / 2) % 65536 ≡ weighted t n x y
weighted_is t n x y h few p q =
    let one : (n - t) * x ≤ (n - t) * 255 = mul-le (n - t) x (n - t) 255 (omega arith) p in
    let other : t * y ≤ t * 255 = mul-le t y t 255 (omega arith) q in
    rw (
      unwrapped ((n - t) * x) (omega (arith, one)),
      unwrapped (t * y) (omega (arith, other)),
      unwrapped ((n - t) * x + t * y) (omega (arith, one, other)),
      unwrapped ((n - t) * x + t * y + n / 2) (omega (arith, one, other)),
    ) refl

-- lane by lane, by a multiplication m and an addition a
module _ (m a k : ℕ → ℕ → ℕ) (p t h : ℕ)
    (is : (x y : ℕ) → x ≤ 255 → y ≤ 255 → a (a (m p x) (m t y)) h ≡ k x y) where
  pub weighted_lanes : (n : ℕ) (xs ys : List ℕ) → length xs ≡ n → length ys ≡ n → Small xs →
      Small ys → zip2 a (zip2 a (zip2 m (replicate n p) xs) (zip2 m (replicate n t) ys)) (replicate n h)
      ≡ zip2 k xs ys
  weighted_lanes zero [] [] long same u v = refl
  weighted_lanes (suc n) (x ∷ xs) (y ∷ ys) long same u v =
      rw (is x y u.0 v.0, weighted_lanes n xs ys (omega arith) (omega arith) u.1 v.1) refl
  weighted_lanes n xs ys long same u v = absurd (omega arith)

pub all_weighted_small : (t n : ℕ) (xs ys : List ℕ) → t < n → Small xs → Small ys →
    Each1 (λ x. x ≤ 255 * n + n / 2) (zip2 (weighted t n) xs ys)
all_weighted_small t n [] ys h p q = tt
all_weighted_small t n (x ∷ xs) [] h p q = tt
all_weighted_small t n (x ∷ xs) (y ∷ ys) h p q =
    (weighted_small t n x y h p.0 q.0, all_weighted_small t n xs ys h p.1 q.1)

-- quotients, by a multiplication m and a shift s of numbers that a cast c leaves as they are
module _ (m s : ℕ → ℕ → ℕ) (c : ℕ → ℕ) (n r : ℕ)
    (is : (x : ℕ) → x ≤ 255 * n + n / 2 → s (m (c x) r) 24 ≡ x / n) where
  pub divided_lanes : (k : ℕ) (xs : List ℕ) → length xs ≡ k →
      Each1 (λ x. x ≤ 255 * n + n / 2) xs →
      zip2 s (zip2 m (map c xs) (replicate k r)) (replicate k 24) ≡ map (λ x. x / n) xs
  divided_lanes zero [] long p = refl
  divided_lanes (suc k) (x ∷ xs) long p =
      rw (is x p.0, divided_lanes k xs (omega arith) p.1) refl
  divided_lanes k xs long p = absurd (omega arith)

pub all_divided_small : (n : ℕ) (xs : List ℕ) → 0 < n → Each1 (λ x. x ≤ 255 * n + n / 2) xs →
    Small (map (λ x. x / n) xs)
all_divided_small n [] some p = tt
all_divided_small n (x ∷ xs) some p =
    (quotient_small n x some p.0, all_divided_small n xs some p.1)

-- the sums divided are the fade
pub divided_fade : (t n : ℕ) (xs ys : List ℕ) →
    map (λ x. x / n) (zip2 (weighted t n) xs ys) ≡ zip2 (faded t n) xs ys
divided_fade t n [] ys = refl
divided_fade t n (x ∷ xs) [] = refl
divided_fade t n (x ∷ xs) (y ∷ ys) = ap (λ rest. faded t n x y ∷ rest) (divided_fade t n xs ys)

pub quotient_is : (n x r : ℕ) → 0 < n → n ≤ 256 → r ≡ 16777216 / n + 1 → x ≤ 255 * n + n / 2 →
    x * r % 4294967296 / 16777216 ≡ x / n
quotient_is n x r some few is small =
    ap (λ r. x * r % 4294967296 / 16777216) is
    ∙ ap (λ z. z / 16777216) (unwrapped_wide (x * (16777216 / n + 1)) (fits n x some few small))
    ∙ divides n x some few small
