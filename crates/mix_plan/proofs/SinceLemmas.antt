-- Each draw of a plan has the tick of a row.
use Rattle.std.proofs.Common.{◌≡◌, ℕ, zero, suc, refl, Bool, true, false, cond, List, [], ◌∷◌, ◌++◌}
use Rattle.std.proofs.Common.{flat_map, Option, Some, None, find, ap, ◌==◌, eq-eqb}
use Rattle.std.specs.List.{list_all, list_any}
use Rattle.mix_model.specs.declared.kind.Blend.{Blend}
use Rattle.mix_model.specs.declared.kind.Blend.TheVariants.{Normal}
use Rattle.mix_model.specs.declared.item.Item.{Item}
use Rattle.mix_model.specs.declared.row.Row.{Row}
use Rattle.mix_model.specs.declared.draw.Step.{Step}
use Rattle.mix_model.specs.declared.draw.Draw.{Draw}
use Rattle.mix_model.specs.Rows.{has_items, is_visible, is_at}
use Rattle.mix_model.specs.Lookups.{find_row}
use Rattle.mix_model.specs.Drawing.{depth}
use Rattle.mix_model.proofs.SetLemmas.{or_left, or_right}
use Rattle.mix_plan.specs.Listed.{Lister, step_of, has_pixels, draws_with, item_draws}
use Rattle.mix_plan.specs.Listed.{row_draws, found_draws, listed, plan_of}
use Rattle.mix_plan.specs.Laws.{has_since_of}
use Rattle.mix_plan.proofs.ValidLemmas.{all_append}

abbrev since_of : Option Row → ℕ
since_of None = 0
since_of (Some row) = row.since

-- the row that is found is one of the rows
found_since : (x : ℕ) (rows : List Row) (row : Row) → find (is_at x) rows ≡ Some row →
    list_any (λ r. r.since == row.since) rows ≡ true
found_since x [] row is = cc
found_since x (r ∷ rows) row is = by_test (is_at x r) (found_since x rows row) is where
  by_test : (b : Bool) →
      (find (is_at x) rows ≡ Some row → list_any (λ s. s.since == row.since) rows ≡ true) →
      cond b (Some r) (find (is_at x) rows) ≡ Some row →
      list_any (λ s. s.since == row.since) (r ∷ rows) ≡ true
  by_test true later here = or_left _ _ (eq-eqb _ _ (ap since_of here))
  by_test false later there = or_right _ _ (later there)

-- the draws that are listed of each row have the ticks of rows
abbrev Begun : List Row → Lister → Type 0
Begun rows list = (steps : List Step) (blend : Blend) (x : ℕ) →
    list_all (has_since_of rows) (list steps blend x) ≡ true

items_begun : (rows : List Row) (canvas : ℕ × ℕ) (list : Lister) → Begun rows list →
    (steps : List Step) (items : List Item) →
    list_all (has_since_of rows) (flat_map (item_draws rows canvas list steps) items) ≡ true
items_begun rows canvas list begun steps [] = refl
items_begun rows canvas list begun steps (item ∷ items) =
    all_append (has_since_of rows) (item_draws rows canvas list steps item) _
    (by_flag (is_visible item)) (items_begun rows canvas list begun steps items) where
      by_flag : (b : Bool) → list_all (has_since_of rows)
          (cond b (list (steps ++ step_of rows canvas item ∷ []) item.blend item.child) []) ≡ true
      by_flag true = begun (steps ++ step_of rows canvas item ∷ []) item.blend item.child
      by_flag false = refl

row_begun : (rows : List Row) (canvas : ℕ × ℕ) (list : Lister) → Begun rows list →
    (steps : List Step) (blend : Blend) (row : Row) →
    list_any (λ r. r.since == row.since) rows ≡ true →
    list_all (has_since_of rows) (row_draws rows canvas list steps blend row) ≡ true
row_begun rows canvas list begun steps blend row there = by_kind (has_items row.kind) where
  by_pixels : (b : Bool) → list_all (has_since_of rows) (cond b (record {
    settings = row.settings;
    since = row.since;
    steps = steps;
    blend = blend;
  } ∷ []) []) ≡ true
  by_pixels true = rw there refl
  by_pixels false = refl

  by_kind : (b : Bool) → list_all (has_since_of rows)
      (cond b (flat_map (item_draws rows canvas list steps) row.items)
      (draws_with steps blend row.settings row.since)) ≡ true
  by_kind true = items_begun rows canvas list begun steps row.items
  by_kind false = by_pixels (has_pixels row.settings)

found_begun : (rows : List Row) (canvas : ℕ × ℕ) (list : Lister) → Begun rows list →
    (steps : List Step) (blend : Blend) (found : Option Row) →
    ((row : Row) → found ≡ Some row → list_any (λ r. r.since == row.since) rows ≡ true) →
    list_all (has_since_of rows) (found_draws rows canvas list steps blend found) ≡ true
found_begun rows canvas list begun steps blend None there = refl
found_begun rows canvas list begun steps blend (Some row) there =
    row_begun rows canvas list begun steps blend row (there row refl)

listed_begun : (rows : List Row) (canvas : ℕ × ℕ) (n : ℕ) → Begun rows (listed rows canvas n)
listed_begun rows canvas zero steps blend x = refl
listed_begun rows canvas (suc n) steps blend x =
    found_begun rows canvas (listed rows canvas n) (listed_begun rows canvas n) steps blend
    (find_row rows x) (found_since x rows)

roots_begun : (rows : List Row) (canvas : ℕ × ℕ) (roots : List ℕ) →
    list_all (has_since_of rows) (flat_map (listed rows canvas depth [] Normal) roots) ≡ true
roots_begun rows canvas [] = refl
roots_begun rows canvas (root ∷ roots) =
    all_append (has_since_of rows) (listed rows canvas depth [] Normal root) _
    (listed_begun rows canvas depth [] Normal root) (roots_begun rows canvas roots)

-- each draw of a plan has the tick of a row
pub plan_is_begun : (rows : List Row) (canvas : ℕ × ℕ) (roots : List ℕ) (draws : List Draw) →
    draws ≡ plan_of rows canvas roots → list_all (has_since_of rows) draws ≡ true
unfolding plan_of
plan_is_begun rows canvas roots draws is = rw is (roots_begun rows canvas roots)
