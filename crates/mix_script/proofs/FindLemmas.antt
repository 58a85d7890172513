-- A byte that passes a test is found exactly where one stands.
use Rattle.std.proofs.Common.{◌≡◌, ℕ, zero, suc, ◌+◌, ◌<◌, ◌≤◌, ◌||◌, Bool, true, false, List, [], ◌∷◌}
use Rattle.std.proofs.Common.{Option, Some, None, length, slice_index, is_some, refl, sym, arith}
use Rattle.std.specs.List.{list_any}
use Rattle.memchr.specs.Find.{IsFirstByte}

is_false : (b : Bool) → ¬ (b ≡ true) → b ≡ false
is_false true never = absurd (never refl)
is_false false _ = refl

or_first : (a b : Bool) → a ≡ true → (a || b) ≡ true
or_first a b is = rw is refl

or_second : (a b : Bool) → b ≡ true → (a || b) ≡ true
or_second true b is = refl
or_second false b is = is

none_any : (test : ℕ → Bool) (xs : List ℕ) →
    ((k : ℕ) → k < length xs → ¬ (test (slice_index xs k) ≡ true)) → list_any test xs ≡ false
none_any test [] none = refl
none_any test (x ∷ xs) none = rw (
  is_false (test x) (none zero (omega arith)),
  none_any test xs (λ k low. none (suc k) (omega (arith, low))),
)

some_any : (test : ℕ → Bool) (xs : List ℕ) (k : ℕ) → k < length xs →
    test (slice_index xs k) ≡ true → list_any test xs ≡ true
some_any test [] k low is = absurd (omega (arith, low))
some_any test (x ∷ xs) zero low is = or_first (test x) (list_any test xs) is
some_any test (x ∷ xs) (suc k) low is =
    or_second (test x) (list_any test xs) (some_any test xs k (omega (arith, low)) is)

pub found_any : (test : ℕ → Bool) (xs : List ℕ) (r : Option ℕ) → IsFirstByte test xs r →
    is_some r ≡ list_any test xs
found_any test xs None none = sym (none_any test xs (λ k low. none k (omega arith) low))
found_any test xs (Some k) first = sym (some_any test xs k first.0.high first.1)
