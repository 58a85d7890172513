-- Lists of numbers as sets, and tests of their members.
use Rattle.std.proofs.Common.{◌≡◌, ℕ, Bool, true, false, cond, ◌&&◌, ◌||◌, ◌⊎◌, inl, inr, List, []}
use Rattle.std.proofs.Common.{◌∷◌, Some, refl, sym, subst, eqb-true, eq-eqb, find, not}
use Rattle.std.specs.List.{list_any, list_all}
use Rattle.mix_model.specs.Sets.{has}

pub or_cases : (a b : Bool) → (a || b) ≡ true → (a ≡ true) ⊎ (b ≡ true)
or_cases true b h = inl refl
or_cases false b h = inr h

pub or_left : (a b : Bool) → a ≡ true → (a || b) ≡ true
or_left true b h = refl
or_left false b h = cc

pub or_right : (a b : Bool) → b ≡ true → (a || b) ≡ true
or_right true b h = refl
or_right false b h = h

pub and_both : (a b : Bool) → a ≡ true → b ≡ true → (a && b) ≡ true
and_both true b first second = second
and_both false b first second = cc

pub and_first : (a b : Bool) → (a && b) ≡ true → a ≡ true
and_first true b h = refl
and_first false b h = cc

pub and_second : (a b : Bool) → (a && b) ≡ true → b ≡ true
and_second true b h = h
and_second false b h = cc

-- what holds of a part of two, of both
pub or_imply : (a b c d : Bool) → (a ≡ true → c ≡ true) → (b ≡ true → d ≡ true) →
    (a || b) ≡ true → (c || d) ≡ true
or_imply true b c d first second h = or_left c d (first refl)
or_imply false b c d first second h = or_right c d (second h)

pub and_imply : (a b c d : Bool) → (a ≡ true → c ≡ true) → (b ≡ true → d ≡ true) →
    (a && b) ≡ true → (c && d) ≡ true
and_imply a b c d first second h =
    and_both c d (first (and_first a b h)) (second (and_second a b h))

pub not_imply : (a b : Bool) → (b ≡ true → a ≡ true) → not a ≡ true → not b ≡ true
not_imply true b imply h = cc
not_imply false true imply h = imply refl
not_imply false false imply h = refl

-- what holds of each element that passed a test holds of all where all passed it
pub all_imply : {X : Type 0} (p q : X → Bool) → ((x : X) → p x ≡ true → q x ≡ true) →
    (xs : List X) → list_all p xs ≡ true → list_all q xs ≡ true
all_imply p q imply [] all = refl
all_imply p q imply (x ∷ xs) all =
    and_both _ _ (imply x (and_first _ _ all)) (all_imply p q imply xs (and_second _ _ all))

-- a test that some member passes is passed by one
pub any_member : (p : ℕ → Bool) (xs : List ℕ) → list_any p xs ≡ true →
    (x : ℕ) × (has x xs ≡ true) × (p x ≡ true)
any_member p [] h = cc
any_member p (y ∷ xs) h = elim (or_cases _ _ h) [
  | inl here ↦ (y, or_left _ _ (eq-eqb y y refl), here)
  | inr there ↦ let found = any_member p xs there in
      (found.0, or_right _ _ found.1, found.2)
]

-- and what a member passes, some member passes
pub member_any : (p : ℕ → Bool) (x : ℕ) (xs : List ℕ) → has x xs ≡ true → p x ≡ true →
    list_any p xs ≡ true
member_any p x [] h passed = cc
member_any p x (y ∷ xs) h passed = elim (or_cases _ _ h) [
  | inl here ↦ let same : x ≡ y = sym (eqb-true y x here) in
      or_left _ _ (subst (λ z. p z ≡ true) same passed)
  | inr there ↦ or_right _ _ (member_any p x xs there passed)
]

-- what a look-up finds passes its test, and each test that all elements pass
pub found_passes : {X : Type 0} (p q : X → Bool) (xs : List X) (r : X) → find p xs ≡ Some r →
    list_all q xs ≡ true → (p r ≡ true) × (q r ≡ true)
found_passes p q [] r found all = cc
found_passes {X} p q (y ∷ xs) r found all =
    (elim (p y) as (λ b. p y ≡ b → cond b (Some y) (find p xs) ≡ Some r →
    (p r ≡ true) × (q r ≡ true)) [
      | true ↦ λ passed here. let same : y ≡ r = cc in
          (subst (λ z. p z ≡ true) same passed, subst (λ z. q z ≡ true) same (and_first _ _ all))
      | false ↦ λ passed there. found_passes p q xs r there (and_second _ _ all)
    ]) refl found

-- what a look-up finds passes its test
pub found_test : {X : Type 0} (p : X → Bool) (xs : List X) (r : X) → find p xs ≡ Some r →
    p r ≡ true
found_test p [] r found = cc
found_test {X} p (y ∷ xs) r found =
    (elim (p y) as (λ b. p y ≡ b → cond b (Some y) (find p xs) ≡ Some r → p r ≡ true) [
      | true ↦ λ passed here. let same : y ≡ r = cc in subst (λ z. p z ≡ true) same passed
      | false ↦ λ passed there. found_test p xs r there
    ]) refl found
