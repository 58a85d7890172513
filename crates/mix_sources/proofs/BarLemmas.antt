-- Which colour a bar has is told by the place within two bars, and after two bars everything comes
-- again.
use Rattle.std.proofs.Common.{◌≡◌, ℕ, zero, suc, ◌+◌, ◌-◌, ◌*◌, ◌/◌, ◌%◌, ◌<◌, ◌≤◌, arith, refl, ap}
use Rattle.std.proofs.Common.{sym, ◌∙◌, nat_eq, nat_lt, ℤ, pos, negsuc, ◌+ℤ◌, ◌*ℤ◌}
use native.Mathlib.Nat.{add-mul-mod_self_right, div-add-mod, div-div-eq-div-mul, mod-add-div}
use native.Mathlib.Nat.{mod-lt}
use native.Mathlib.Nat.{mul-add, mul_comm}
use Rattle.std.proofs.lemmas.Bool.{le-ltb, lt-ltb}
use Rattle.std.proofs.lemmas.Int.{int_rem_euclid_is, ints}
use Rattle.std.specs.Prelude.{int_lt}
use Rattle.std.specs.Int.{int_div_euclid, int_rem_euclid}
use Rattle.mix_model.specs.Kinds.{is_even, scroll_even}

-- a number of pairs of bars, perhaps one bar more, and a rest: whether there is one more
record IsSplit (b pairs more rest within : ℕ) : Type 0 where
  one : more < 2
  short : rest < b
  same : b * (2 * pairs + more) + rest ≡ 2 * b * pairs + within

above : (b pairs more rest within : ℕ) → IsSplit b pairs more rest within →
    nat_eq more 0 ≡ nat_lt within b
above b pairs zero rest within split =
    let pair : b * (2 * pairs + zero) ≡ 2 * b * pairs = grind arith in
    sym (lt-ltb within b (omega (arith, split.same, split.short)))
above b pairs (suc zero) rest within split =
    let pair : b * (2 * pairs + suc zero) ≡ 2 * b * pairs + b = grind arith in
    sym (le-ltb within b (omega (arith, split.same)))
above b pairs (suc (suc more)) rest within split = absurd (omega (arith, split.one))

below : (b pairs more rest within : ℕ) → IsSplit b pairs more rest within →
    nat_eq (2 - 1 - more) 0 ≡ nat_lt (2 * b - 1 - within) b
below b pairs zero rest within split =
    let pair : b * (2 * pairs + zero) ≡ 2 * b * pairs = grind arith in
    sym (le-ltb (2 * b - 1 - within) b (omega (arith, split.same, split.short)))
below b pairs (suc zero) rest within split =
    let pair : b * (2 * pairs + suc zero) ≡ 2 * b * pairs + b = grind arith in
    sym (lt-ltb (2 * b - 1 - within) b (omega (arith, split.same, split.short)))
below b pairs (suc (suc more)) rest within split = absurd (omega (arith, split.one))

split_of : (a b : ℕ) → 0 < b →
    IsSplit b (a / (b * 2)) (a / b % 2) (a % b) (a % (2 * b))
split_of a b some = record {
  one = mod-lt (a / b) (omega arith);
  short = mod-lt a some;
  same =
      let bars : b * (a / b) + a % b ≡ a = div-add-mod a b in
      let pairs : 2 * (a / b / 2) + a / b % 2 ≡ a / b = div-add-mod (a / b) 2 in
      let twice : 2 * b * (a / (2 * b)) + a % (2 * b) ≡ a = div-add-mod a (2 * b) in
      ap (λ q. b * (2 * q + a / b % 2) + a % b) (sym (div-div-eq-div-mul a b 2))
      ∙ ap (λ q. b * q + a % b) pairs ∙ bars ∙ sym twice
      ∙ ap (λ n. 2 * b * (a / n) + a % (2 * b)) (mul_comm 2 b);
}

-- whether a place is in an even bar is told by the place within two bars
bar_within : (z : ℤ) (bar : ℕ) → 0 < bar →
    is_even (int_div_euclid z (pos bar)) ≡ int_lt (int_rem_euclid z (pos (2 * bar))) (pos bar)
bar_within (pos a) bar some = above bar _ _ _ _ (split_of a bar some)
bar_within (negsuc a) bar some = below bar _ _ _ _ (split_of a bar some)

-- a product of a number whose quotient and remainder are known
split_product : (p n age : ℕ) → p * age ≡ p * (age % n) + p * (age / n) * n
split_product p n age =
    ap (λ a. p * a) (sym (mod-add-div age n)) ∙ grind arith

-- a whole number of turns more, and the way down from there
turns : (p n q r : ℕ) → r ≤ n → p * (r + n * q) + p * (n - r) ≡ p * suc q * n
turns p n q r within =
    sym (mul-add p (r + n * q) (n - r))
    ∙ ap (λ a. p * a) (let whole : r + n * q + (n - r) ≡ n * q + n = omega arith in whole)
    ∙ grind arith

-- frames count only within one turn of the pattern
turned : (n : ℕ) (speed : ℤ) (age u : ℕ) → 0 < n →
    int_rem_euclid (pos u +ℤ speed *ℤ pos age) (pos n)
    ≡ int_rem_euclid (pos u +ℤ speed *ℤ pos (age % n)) (pos n)
turned n (pos p) age u some =
    let split : u + p * age ≡ (u + p * (age % n)) + p * (age / n) * n =
    omega (arith, split_product p n age) in
    ap (λ a. pos (a % n)) split
    ∙ ap pos (add-mul-mod_self_right (u + p * (age % n)) (p * (age / n)) n)
turned n (negsuc p) age u some =
    let within : age % n ≤ n = let below : age % n < n = mod-lt age some in omega arith in
    let far : suc p * age + suc p * (n - age % n) ≡ suc p * suc (age / n) * n =
    ap (λ a. suc p * a + suc p * (n - age % n)) (sym (mod-add-div age n))
    ∙ turns (suc p) n (age / n) (age % n) within in
    let near : suc p * (age % n) + suc p * (n - age % n) ≡ suc p * n =
    sym (mul-add (suc p) (age % n) (n - age % n)) ∙ ap (λ a. suc p * a) (omega arith) in
    let place : ℕ = u + suc p * (n - age % n) in
    let z : ℤ = pos u +ℤ negsuc p *ℤ pos age in
    let y : ℤ = pos u +ℤ negsuc p *ℤ pos (age % n) in
    let from_far : z +ℤ pos (suc p * suc (age / n) * n) ≡ pos place = omega (arith, ints, far) in
    let from_near : y +ℤ pos (suc p * n) ≡ pos place = omega (arith, ints, near) in
    int_rem_euclid_is z (pos n) n (suc p * suc (age / n)) place some refl from_far
    ∙ sym (int_rem_euclid_is y (pos n) n (suc p) place some refl from_near)

-- so the bar at a column is told by few frames, and by a place within two bars
pub first_bar : (bar : ℕ) (speed : ℤ) (age u : ℕ) → 0 < bar →
    int_lt (int_rem_euclid (pos u +ℤ speed *ℤ pos (age % (2 * bar))) (pos (2 * bar))) (pos bar)
    ≡ scroll_even bar speed age u
first_bar bar speed age u some =
    ap (λ z. int_lt z (pos bar)) (sym (turned (2 * bar) speed age u (omega arith)))
    ∙ sym (bar_within (pos u +ℤ speed *ℤ pos age) bar some)
