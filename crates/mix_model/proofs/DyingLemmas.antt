-- The dying list after the settling names exactly the rows without a holder, each once.
use Rattle.std.proofs.Common.{◌≡◌, ℕ, Bool, true, false, ◌&&◌, ◌||◌, not, cond, List, [], ◌∷◌, ◌++◌}
use Rattle.std.proofs.Common.{map, filter, refl, sym, ap, ◌==◌, eqb-true, eq-eqb, subst, inl, inr}
use Rattle.std.proofs.Common.{IsTrue}
use Rattle.std.specs.List.{list_all}
use Rattle.std.proofs.lemmas.List.Folds.{list_any-append}
use Rattle.mix_model.specs.declared.row.Row.{Row}
use Rattle.mix_model.specs.Sets.{has, agree}
use Rattle.mix_model.specs.State.{GraphState}
use Rattle.mix_model.specs.Rows.{serials_of}
use Rattle.mix_model.specs.Holders.{is_held}
use Rattle.mix_model.specs.Settle.{settle, newly_dying, with_since}
use Rattle.mix_model.proofs.SetLemmas.{and_both, and_first, and_second, or_left, or_right, or_cases}
use Rattle.mix_model.proofs.SettleLemmas.{settled_held}

-- a member passes what all members pass
pub member_passes : (p : ℕ → Bool) (x : ℕ) (xs : List ℕ) → has x xs ≡ true →
    list_all p xs ≡ true → p x ≡ true
member_passes p x [] h all = cc
member_passes p x (y ∷ xs) h all = elim (or_cases _ _ h) [
  | inl here ↦ subst (λ z. p z ≡ true) (eqb-true y x here) (and_first _ _ all)
  | inr there ↦ member_passes p x xs there (and_second _ _ all)
]

-- what holds of each member holds of all
pub all_members : (q : ℕ → Bool) (xs : List ℕ) → ((x : ℕ) → has x xs ≡ true → q x ≡ true) →
    list_all q xs ≡ true
all_members q [] each = refl
all_members q (y ∷ xs) each = and_both _ _ (each y (or_left _ _ (eq-eqb y y refl)))
    (all_members q xs (λ x h. each x (or_right _ _ h)))

has_head : (b : Bool) (x y : ℕ) (xs : List ℕ) →
    has x (cond b (y ∷ xs) xs) ≡ cond b ((y == x) || has x xs) (has x xs)
has_head true x y xs = refl
has_head false x y xs = refl

kept_case : (b e px rest kept : Bool) → (e ≡ true → px ≡ b) → kept ≡ (px && rest) →
    cond b (e || kept) kept ≡ (px && (e || rest))
kept_case true true px rest kept same k = sym (and_both px true (same refl) refl)
kept_case true false px rest kept same k = k
kept_case false true px rest kept same k = let none : px ≡ false = same refl in rw (k, none)
kept_case false false px rest kept same k = k

-- a filter keeps the members that pass, and no other number
pub has_filter : (p : ℕ → Bool) (x : ℕ) (xs : List ℕ) → has x (filter p xs) ≡ (p x && has x xs)
has_filter p x [] = elim (p x) as (λ b. false ≡ (b && false)) [ true ↦ refl | false ↦ refl ]
has_filter p x (y ∷ xs) = rw (has_head (p y) x y (filter p xs))
    (kept_case (p y) (y == x) (p x) (has x xs) (has x (filter p xs))
    (λ here. ap p (sym (eqb-true y x here))) (has_filter p x xs))

-- a row is in the longer list exactly where nothing holds it
dying_case : (d h s : Bool) → s ≡ true → (d ≡ true → not h ≡ true) →
    agree (d || ((not h && not d) && s)) (not h) ≡ true
dying_case true h s here unheld = unheld refl
dying_case false true s here unheld = refl
dying_case false false s here unheld = rw here

-- the serials of rows that are changed in other fields
list_all_serials : (q : ℕ → Bool) (h : Row → Row) → ((r : Row) → (h r).serial ≡ r.serial) →
    (rows : List Row) → list_all (λ r. q r.serial) (map h rows) ≡ list_all q (serials_of rows)
list_all_serials q h same [] = refl
list_all_serials q h same (r ∷ rows) = rw (same r, list_all_serials q h same rows)

-- what dies after the settling is exactly what nothing holds
pub settled_dying : (old new : GraphState) →
    IsTrue (list_all (λ x. not (is_held new x)) new.dying) →
    IsTrue (list_all (λ r. agree (has r.serial (settle old new).dying)
    (not (is_held (settle old new) r.serial))) (settle old new).rows)
unfolding settle with_since newly_dying
settled_dying old new unheld =
    let q : ℕ → Bool = λ x. agree (has x (new.dying ++ newly_dying new))
    (not (is_held (settle old new) x)) in
    rw (list_all_serials q (with_since old new) (λ r. refl) new.rows)
    (all_members q (serials_of new.rows) (λ x here.
    rw (
      list_any-append (λ y. y == x) new.dying (newly_dying new),
      has_filter (λ y. not (is_held new y) && not (has y new.dying)) x (serials_of new.rows),
      settled_held old new x,
    )
    (dying_case (has x new.dying) (is_held new x) (has x (serials_of new.rows)) here
    (λ dies. member_passes (λ y. not (is_held new y)) x new.dying dies unheld))))
