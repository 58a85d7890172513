-- The least serial above another, found one by one.
use Rattle.std.proofs.Common.{◌≡◌, ℕ, Bool, true, false, ◌==◌, ◌||◌, cond, nat_le, nat_lt}
use Rattle.std.proofs.Common.{List, [], ◌∷◌, ◌++◌, Option, Some, None, refl, arith}
use Rattle.std.proofs.Common.{take, length, get_or, ◌+◌, ◌<◌, eq-eqb}
use Rattle.std.specs.List.{list_all}
use Rattle.std.proofs.lemmas.Bool.Decides.{nat_tests}
use Rattle.std.proofs.lemmas.List.{map_more}
use Rattle.std.proofs.lemmas.List.Folds.{list_all-append}
use Rattle.mix_model.specs.declared.row.Row.{Row}
use Rattle.mix_model.specs.Sets.{has, is_next}
use Rattle.mix_model.specs.Rows.{serials_of}
use Rattle.mix_store.specs.Asked.{nearer}
use Rattle.mix_model.proofs.SetLemmas.{and_first, and_second, all_imply, or_left, or_right}
use Rattle.mix_shape.proofs.ThinnerLemmas.{has_append}

-- what holds of all, and of one more
all_more : (p q : ℕ → Bool) → ((y : ℕ) → p y ≡ true → q y ≡ true) → (xs : List ℕ) (y : ℕ) →
    list_all p xs ≡ true → q y ≡ true → list_all q (xs ++ y ∷ []) ≡ true
all_more p q step xs y all one =
    rw (list_all-append q xs (y ∷ []), all_imply p q step xs all, one) refl

has_last : (xs : List ℕ) (y : ℕ) → has y (xs ++ y ∷ []) ≡ true
has_last xs y = rw (has_append y xs (y ∷ []))
    (or_right (has y xs) _ (or_left (y == y) _ (eq-eqb y y refl)))

still_least : (x y z w : ℕ) → (nat_le y x || nat_le z y) ≡ false →
    (nat_le w x || nat_le z w) ≡ true → (nat_le w x || nat_le y w) ≡ true
still_least x y z w near least = grind (arith, nat_tests, near, least)

itself : (x y : ℕ) → (nat_le y x || nat_le y y) ≡ true
itself x y = grind (arith, nat_tests)

-- one serial more
pub next_more : (x : ℕ) (xs : List ℕ) (found : Option ℕ) (y : ℕ) → is_next x xs found ≡ true →
    is_next x (xs ++ y ∷ []) (nearer x found y) ≡ true
next_more x xs None y all = (elim (nat_le y x) as (λ b. nat_le y x ≡ b →
    is_next x (xs ++ y ∷ []) (cond b None (Some y)) ≡ true) [
      | true ↦ λ below. all_more (λ w. nat_le w x) (λ w. nat_le w x) (λ w h. h) xs y all below
      | false ↦ λ above. let over : nat_lt x y ≡ true = grind (arith, nat_tests, above) in
          rw (has_last xs y, over)
          (all_more (λ w. nat_le w x) (λ w. nat_le w x || nat_le y w) (λ w h. rw h refl) xs y all
          (itself x y))
    ]) refl
next_more x xs (Some z) y all =
    let there : has z xs ≡ true = and_first _ _ all in
    let over : nat_lt x z ≡ true = and_first _ _ (and_second _ _ all) in
    let least : list_all (λ w. nat_le w x || nat_le z w) xs ≡ true =
    and_second _ _ (and_second _ _ all) in
    (elim (nat_le y x || nat_le z y) as (λ b. (nat_le y x || nat_le z y) ≡ b →
    is_next x (xs ++ y ∷ []) (cond b (Some z) (Some y)) ≡ true) [
      | true ↦ λ past. rw (has_append z xs (y ∷ []), there, over)
          (all_more (λ w. nat_le w x || nat_le z w) (λ w. nat_le w x || nat_le z w) (λ w h. h) xs
          y least past)
      | false ↦ λ nearer. let above : nat_lt x y ≡ true = grind (arith, nat_tests, nearer) in
          rw (has_last xs y, above)
          (all_more (λ w. nat_le w x || nat_le z w) (λ w. nat_le w x || nat_le y w)
          (λ w h. still_least x y z w nearer h) xs y least (itself x y))
    ]) refl

-- one row more
pub next_row : (x : ℕ) (rows : List Row) (i : ℕ) (row : Row) (found after : Option ℕ) →
    i < length rows → row ≡ get_or rows i row →
    is_next x (serials_of (take i rows)) found ≡ true → after ≡ nearer x found row.serial →
    is_next x (serials_of (take (i + 1) rows)) after ≡ true
next_row x rows i row found after below here so_far nearer_is =
    rw (map_more (λ (r : Row). r.serial) rows i row below, ← here, nearer_is)
    (next_more x (serials_of (take i rows)) found row.serial so_far)
