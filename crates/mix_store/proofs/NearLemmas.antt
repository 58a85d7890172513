-- A new item makes only near rows deeper or heavier, where nothing shows those that show its parent.
use Rattle.std.proofs.Common.{◌≡◌, ℕ, Bool, true, false, ◌==◌, ◌&&◌, ◌||◌, not, cond, List, []}
use Rattle.std.proofs.Common.{◌∷◌, map, find, Option, Some, None, refl, ap, sym, ◌∙◌, nat_le, subst}
use Rattle.std.proofs.Common.{option_and_then, eqb-true, eq-eqb, IsTrue}
use Rattle.std.specs.List.{list_all, list_any}
use Rattle.std.specs.Cmp.{both_ways as same_answer}
use Rattle.std.specs.Option.{option_map_or}
use Rattle.std.proofs.lemmas.Bool.{not-true, or_parts, or_from, false_from_ne_true, both_ways}
use Rattle.mix_model.specs.declared.item.Item.{Item}
use Rattle.mix_model.specs.declared.row.Row.{Row}
use Rattle.mix_model.specs.Rows.{is_at, shows, has_items, children_of}
use Rattle.mix_model.specs.Holders.{shows_some}
use Rattle.mix_model.specs.Ranks.{inside_of, inside_in, rank_over, weight_over, rank_in, weight_in}
use Rattle.mix_model.proofs.SetLemmas.{all_imply, and_both, or_left, or_right, found_test}
use Rattle.mix_model.proofs.SetLemmas.{found_passes}
use Rattle.mix_model.proofs.FallLemmas.{all_rows}
use Rattle.mix_model.proofs.AlikeLemmas.{Alike, inside_all, rank_alike, weight_alike}
use Rattle.mix_shape.specs.declared.new_item.NewItem.{NewItem}
use Rattle.mix_shape.specs.NewItems.{inside_with, inside_or_new, rank_with, weight_with}
use Rattle.mix_shape.proofs.SumLemmas.{found_any}
use Rattle.mix_store.specs.Searched.{RowsRise, IsNear, is_near, is_top}

-- what each child passes
each_child : (q : ℕ → Bool) (items : List Item) →
    ((c : ℕ) → list_any (shows c) items ≡ true → q c ≡ true) →
    list_all q (map (λ i. i.child) items) ≡ true
each_child q [] each = refl
each_child q (i ∷ items) each =
    and_both _ _ (each i.child (or_left _ _ (eq-eqb i.child i.child refl)))
    (each_child q items (λ c shown. each c (or_right _ _ shown)))

module _ (new : NewItem) (rows : List Row) (rise : RowsRise rows) where
  -- what isn't near: other rows, and what is no row
  abbrev is_far : Option Row → Bool
  is_far o = option_map_or (λ r. not (is_near new r)) o true

  abbrev far : ℕ → Bool
  far x = is_far (find (is_at x) rows)

  -- where all rows passed, and those that are far pass as they did, the near ones decide
  near_decide : (p q : ℕ → Bool) → ((x : ℕ) → far x ≡ true → q x ≡ p x) →
      list_all (λ r. p r.serial) rows ≡ true →
      list_all (λ r. not (is_near new r) || q r.serial) rows ≡ list_all (λ r. q r.serial) rows
  near_decide p q same all = same_answer _ _ (λ each. all_rows (λ (r : Row). q r.serial) 0 rows rise
      (λ r found. passes r found (is_near new r) refl
      (found_passes (is_at r.serial) (λ (s : Row). not (is_near new s) || q s.serial) rows r found
      each).1
      (found_passes (is_at r.serial) (λ (s : Row). p s.serial) rows r found all).1))
      (all_imply (λ (r : Row). q r.serial) (λ (r : Row). not (is_near new r) || q r.serial)
      (λ r passed. or_right _ _ passed) rows)
    where
      passes : (r : Row) → find (is_at r.serial) rows ≡ Some r → (b : Bool) → is_near new r ≡ b →
          (not b || q r.serial) ≡ true → p r.serial ≡ true → q r.serial ≡ true
      passes r found true is near passed = near
      passes r found false is near passed = same r.serial (rw found (ap not is)) ∙ passed

  module _ (a : IsNear new rows) where
    -- what is inside far rows stays, and is far
    inside_case : (x : ℕ) (o : Option Row) → is_far o ≡ true →
        inside_or_new new x o ≡ option_and_then inside_of o
    inside_case x None away = rw a.item refl
    inside_case x (Some r) away =
        let other : (r.serial == new.parent) ≡ false = (or_parts (r.serial == new.parent)
        (shows_some new.parent r) (not-true (is_near new r) away)).0 in
        rw other refl

    alike_here : (x : ℕ) → far x ≡ true → Alike (inside_with new rows x) (inside_in rows x)
    alike_here x away f =
        let same : inside_with new rows x ≡ inside_in rows x =
        inside_case x (find (is_at x) rows) away in
        (ap (rank_over f) same, ap (weight_over f) same)

    child_far : (x : ℕ) (r : Row) → find (is_at x) rows ≡ Some r → shows_some new.parent r ≡ false →
        (c : ℕ) → shows_some c r ≡ true → (o : Option Row) → find (is_at c) rows ≡ o →
        is_far o ≡ true
    child_far x r here apart c shown None found = refl
    child_far x r here apart c shown (Some s) found =
        let own : s.serial ≡ c = eqb-true s.serial c (found_test (is_at c) rows s found) in
        let first : (s.serial == new.parent) ≡ false =
        false_from_ne_true _ (λ is. both_ways (shows_some new.parent r) apart
        (subst (λ y. shows_some y r ≡ true) (sym own ∙ eqb-true s.serial new.parent is) shown)) in
        let top : (not (shows_some new.parent s) || not (list_any (shows_some s.serial) rows)) ≡ true =
        (found_passes (is_at c) (λ t. is_top new.parent rows t) rows s found a.tops).1 in
        let second : shows_some new.parent s ≡ false =
        false_from_ne_true _ (λ is. both_ways (list_any (shows_some s.serial) rows)
        (not-true (list_any (shows_some s.serial) rows) (rw is at top))
        (found_any (is_at x) (shows_some s.serial) rows r here
        (subst (λ y. shows_some y r ≡ true) (sym own) shown))) in
        ap not (or_from (s.serial == new.parent) (shows_some new.parent s) first second)

    all_far : (x : ℕ) (o : Option Row) → find (is_at x) rows ≡ o → is_far o ≡ true →
        inside_all far (option_and_then inside_of o) ≡ true
    all_far x None found away = refl
    all_far x (Some r) found away = kind_case (has_items r.kind)
      where
        kind_case : (b : Bool) → inside_all far (cond b (Some (children_of r)) None) ≡ true
        kind_case true = each_child far r.items (λ c shown. child_far x r found
            (or_parts (r.serial == new.parent) (shows_some new.parent r)
            (not-true (is_near new r) away)).1 c shown (find (is_at c) rows) refl)
        kind_case false = refl

  -- all rows are looked at, or the near ones where they alone can change
  pub ranks_kept : (near : Bool) → (IsTrue near → IsNear new rows) →
      list_all (λ r. (near && not (is_near new r)) || nat_le (rank_with new rows r.serial) 16) rows
      ≡ list_all (λ r. nat_le (rank_with new rows r.serial) 16) rows
  unfolding rank_with
  ranks_kept true a = near_decide (λ x. nat_le (rank_in rows x) 16)
      (λ x. nat_le (rank_with new rows x) 16) (λ x away. ap (λ n. nat_le n 16)
      (rank_alike far (inside_with new rows) (inside_in rows) (alike_here (a refl))
      (λ y here. all_far (a refl) y (find (is_at y) rows) refl here) 17 x away)) (a refl).shallow
  ranks_kept false a = refl

  pub weights_kept : (near : Bool) → (IsTrue near → IsNear new rows) → list_all
      (λ r. (near && not (is_near new r)) || nat_le (weight_with new rows r.serial) 4096) rows
      ≡ list_all (λ r. nat_le (weight_with new rows r.serial) 4096) rows
  unfolding weight_with
  weights_kept true a = near_decide (λ x. nat_le (weight_in rows x) 4096)
      (λ x. nat_le (weight_with new rows x) 4096) (λ x away. ap (λ n. nat_le n 4096)
      (weight_alike far (inside_with new rows) (inside_in rows) (alike_here (a refl))
      (λ y here. all_far (a refl) y (find (is_at y) rows) refl here) 17 x away)) (a refl).light
  weights_kept false a = refl
