-- Lists that a loop makes, one member after the other; and what a row's list is.
use Rattle.std.proofs.Common.{◌≡◌, ℕ, zero, suc, ◌+◌, ◌-◌, ◌<◌, refl, sym, ap, ◌∙◌, arith, Bool, true, false}
use Rattle.std.proofs.Common.{cond, ◌&&◌, List, [], ◌∷◌, ◌++◌, drop, flat_map, append_assoc, length}
use Rattle.std.proofs.Common.{Option, Some, None, Result, Ok, Err, IfOk, IfSome, drop-cons}
use Rattle.std.specs.Prelude.{slice_get}
use Rattle.std.specs.List.{list_all}
use Rattle.std.proofs.lemmas.Option.{slice_get_within, get_or_from_slice_get}
use Rattle.mix_model.specs.declared.kind.Blend.{Blend}
use Rattle.mix_model.specs.declared.row.Row.{Row}
use Rattle.mix_model.specs.declared.row.RowView.{RowView}
use Rattle.mix_model.specs.declared.draw.Step.{Step}
use Rattle.mix_model.specs.Rows.{has_items}
use Rattle.mix_model.specs.Lookups.{find_row, items_in, items_or_none}
use Rattle.mix_model.specs.Values.{are_settings}
use Rattle.mix_model.specs.Views.{IsView, IsValidView}
use Rattle.mix_plan.specs.Listed.{item_draws, draws_with, found_draws, listed}
use Rattle.mix_plan.specs.Seen.{item_is_sound, found_is_sound, is_sound}

-- what follows of a value from two facts of it
pub both_ok : {T E : Type 0} {P Q R : T → Type 0} (r : Result T E) →
    ((x : T) → P x → Q x → R x) → IfOk r P → IfOk r Q → IfOk r R
both_ok (Ok x) makes first second = makes x first second
both_ok (Err e) makes first second = tt

-- the rest of a list begins with the member at its place
rest_at : {X : Type 0} (xs : List X) (place : ℕ) (x : X) → slice_get xs place ≡ Some x →
    drop place xs ≡ x ∷ drop (place + 1) xs
rest_at xs place x is =
    let next : place + 1 ≡ suc place = omega arith in
    rw next (drop-cons xs place x (slice_get_within xs place x is)
    ∙ ap (λ y. y ∷ drop (suc place) xs) (get_or_from_slice_get xs place x x is))

-- the list so far, and what is made of the members that are left, stay the whole list
pub draws_more : {X A : Type 0} (make : X → List A) (xs : List X) (place : ℕ) (x : X)
    (before after whole : List A) → slice_get xs place ≡ Some x →
    before ++ flat_map make (drop place xs) ≡ whole → after ≡ before ++ make x →
    after ++ flat_map make (drop (place + 1) xs) ≡ whole
draws_more make xs place x before after whole is stands more =
    rw more (append_assoc before (make x) (flat_map make (drop (place + 1) xs))
    ∙ ap (λ ys. before ++ flat_map make ys) (sym (rest_at xs place x is)) ∙ stands)

-- a member that passes the test is left behind
pub tests_more : {X : Type 0} (test : X → Bool) (xs : List X) (place : ℕ) (x : X) (whole : Bool) →
    slice_get xs place ≡ Some x → list_all test (drop place xs) ≡ whole → test x ≡ true →
    list_all test (drop (place + 1) xs) ≡ whole
tests_more test xs place x whole is stands passed =
    sym (ap (λ b. b && list_all test (drop (place + 1) xs)) passed)
    ∙ sym (ap (list_all test) (rest_at xs place x is)) ∙ stands

-- within a list there is a member
pub some_within : {X : Type 0} {P : Type 0} (xs : List X) (place : ℕ) → place < length xs →
    slice_get xs place ≡ None → P
some_within [] place within none = absurd (omega (arith, within))
some_within (x ∷ xs) zero within none = cc
some_within (x ∷ xs) (suc place) within none = some_within xs place (omega (arith, within)) none

-- one of two, by a test that is passed
passed_choice : {A : Type 0} (b : Bool) (x y : A) → b ≡ true → cond b x y ≡ x
passed_choice true x y passed = refl
passed_choice false x y passed = cc

-- a scene or group lists its items, one level deeper
pub items_listed : (rows : List Row) (canvas : ℕ × ℕ) (deeper x : ℕ) (view : RowView) →
    (deeper ≡ 0 → ⊥) → IfSome (find_row rows x) (λ row. IsView row view) →
    has_items view.kind ≡ true → (steps : List Step) (blend : Blend) →
    listed rows canvas deeper steps blend x
    ≡ flat_map (item_draws rows canvas (listed rows canvas (deeper - 1)) steps) (items_in rows x)
items_listed rows canvas zero x view more seen holds steps blend = absurd (more refl)
items_listed rows canvas (suc n) x view more seen holds steps blend =
    let less : suc n - 1 ≡ n = omega arith in rw less (by_row (find_row rows x) seen) where
      by_row : (found : Option Row) → IfSome found (λ row. IsView row view) →
          found_draws rows canvas (listed rows canvas n) steps blend found
          ≡ flat_map (item_draws rows canvas (listed rows canvas n) steps) (items_or_none found)
      by_row None seen = refl
      by_row (Some row) seen = passed_choice (has_items row.kind)
          (flat_map (item_draws rows canvas (listed rows canvas n) steps) row.items)
          (draws_with steps blend row.settings row.since) (sym (ap has_items seen.kind) ∙ holds)

-- a scene or group is sound where its items are
pub items_sound : (rows : List Row) (canvas : ℕ × ℕ) (deeper x : ℕ) (view : RowView) →
    (deeper ≡ 0 → ⊥) → IfSome (find_row rows x) (λ row. IsView row view) → IsValidView view →
    has_items view.kind ≡ true → is_sound rows canvas deeper x
    ≡ list_all (item_is_sound rows canvas (is_sound rows canvas (deeper - 1))) (items_in rows x)
items_sound rows canvas zero x view more seen valid holds = absurd (more refl)
items_sound rows canvas (suc n) x view more seen valid holds =
    let less : suc n - 1 ≡ n = omega arith in rw less (by_row (find_row rows x) seen) where
      fit : (row : Row) → IsView row view → are_settings row.kind row.settings ≡ true
      fit row seen = ap (λ k. are_settings k row.settings) (sym seen.kind)
          ∙ ap (λ s. are_settings view.kind s) (sym seen.settings) ∙ valid.settings

      by_row : (found : Option Row) → IfSome found (λ row. IsView row view) →
          found_is_sound rows canvas (is_sound rows canvas n) found
          ≡ list_all (item_is_sound rows canvas (is_sound rows canvas n)) (items_or_none found)
      by_row None seen = refl
      by_row (Some row) seen =
          let items : Bool = list_all (item_is_sound rows canvas (is_sound rows canvas n)) row.items in
          ap (λ b. b && cond (has_items row.kind) items true) (fit row seen)
          ∙ passed_choice (has_items row.kind) items true (sym (ap has_items seen.kind) ∙ holds)
