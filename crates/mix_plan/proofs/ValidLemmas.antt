-- Each draw of a plan is valid.
use Rattle.std.proofs.Common.{◌≡◌, ℕ, zero, suc, refl, Bool, true, false, cond, ◌&&◌, List, [], ◌∷◌}
use Rattle.std.proofs.Common.{◌++◌, flat_map, Option, Some, None}
use Rattle.std.specs.List.{list_all}
use Rattle.mix_model.specs.declared.settings.Settings.{Settings}
use Rattle.mix_model.specs.declared.settings.Settings.TheVariants.{None as NoSettings}
use Rattle.mix_model.specs.declared.kind.Blend.{Blend}
use Rattle.mix_model.specs.declared.kind.Blend.TheVariants.{Normal}
use Rattle.mix_model.specs.declared.item.Item.{Item}
use Rattle.mix_model.specs.declared.row.Row.{Row}
use Rattle.mix_model.specs.declared.draw.Step.{Step}
use Rattle.mix_model.specs.declared.draw.Draw.{Draw}
use Rattle.mix_model.specs.Rows.{has_items, is_visible}
use Rattle.mix_model.specs.Lookups.{find_row}
use Rattle.mix_model.specs.Values.{are_valid}
use Rattle.mix_model.specs.Drawing.{depth}
use Rattle.mix_model.specs.Plans.{is_step, is_draw, has_settings}
use Rattle.mix_model.proofs.SetLemmas.{and_first, and_second, and_both}
use Rattle.mix_plan.specs.Listed.{Lister, step_of, has_pixels, draws_with, item_draws}
use Rattle.mix_plan.specs.Listed.{row_draws, found_draws, listed, plan_of}
use Rattle.mix_plan.specs.Seen.{item_is_sound, row_is_sound, found_is_sound, is_sound}

-- a test that each member of both lists passes
pub all_append : {A : Type 0} (test : A → Bool) (first rest : List A) → list_all test first ≡ true →
    list_all test rest ≡ true → list_all test (first ++ rest) ≡ true
all_append test [] rest p q = q
all_append test (x ∷ first) rest p q =
    and_both _ _ (and_first _ _ p) (all_append test first rest (and_second _ _ p) q)

-- a list of valid draws of each sound row, reached by valid steps
abbrev Valid : (ℕ → Bool) → Lister → Type 0
Valid sound list = (steps : List Step) (blend : Blend) (x : ℕ) → list_all is_step steps ≡ true →
    sound x ≡ true → list_all is_draw (list steps blend x) ≡ true

item_valid : (rows : List Row) (canvas : ℕ × ℕ) (sound : ℕ → Bool) (list : Lister) →
    Valid sound list → (steps : List Step) → list_all is_step steps ≡ true → (item : Item) →
    item_is_sound rows canvas sound item ≡ true →
    list_all is_draw (item_draws rows canvas list steps item) ≡ true
item_valid rows canvas sound list valid steps taken item passed =
    by_flag (is_visible item) passed where
      step : Step
      step = step_of rows canvas item

      by_flag : (b : Bool) → cond b (is_step step && sound item.child) true ≡ true →
          list_all is_draw (cond b (list (steps ++ step ∷ []) item.blend item.child) []) ≡ true
      by_flag false child = refl
      by_flag true child = valid (steps ++ step ∷ []) item.blend item.child
          (all_append is_step steps (step ∷ []) taken (and_both _ _ (and_first _ _ child) refl))
          (and_second _ _ child)

items_valid : (rows : List Row) (canvas : ℕ × ℕ) (sound : ℕ → Bool) (list : Lister) →
    Valid sound list → (steps : List Step) → list_all is_step steps ≡ true → (items : List Item) →
    list_all (item_is_sound rows canvas sound) items ≡ true →
    list_all is_draw (flat_map (item_draws rows canvas list steps) items) ≡ true
items_valid rows canvas sound list valid steps taken [] passed = refl
items_valid rows canvas sound list valid steps taken (item ∷ items) passed =
    all_append is_draw (item_draws rows canvas list steps item) _
    (item_valid rows canvas sound list valid steps taken item (and_first _ _ passed))
    (items_valid rows canvas sound list valid steps taken items (and_second _ _ passed))

-- what has pixels has settings
pixels_set : (settings : Settings) → has_pixels settings ≡ true → has_settings settings ≡ true
pixels_set NoSettings pixels = cc
pixels_set _ pixels = refl

draw_valid : (draw : Draw) → has_settings draw.settings ≡ true → are_valid draw.settings ≡ true →
    list_all is_step draw.steps ≡ true → is_draw draw ≡ true
unfolding is_draw
draw_valid draw set valid taken = and_both _ _ (and_both _ _ set valid) taken

input_valid : (steps : List Step) → list_all is_step steps ≡ true → (blend : Blend)
    (settings : Settings) (since : ℕ) → are_valid settings ≡ true →
    list_all is_draw (draws_with steps blend settings since) ≡ true
input_valid steps taken blend settings since valid =
    by_pixels (has_pixels settings) (pixels_set settings) where
      draw : Draw
      draw = record { settings = settings; since = since; steps = steps; blend = blend }

      by_pixels : (b : Bool) → (b ≡ true → has_settings settings ≡ true) →
          list_all is_draw (cond b (draw ∷ []) []) ≡ true
      by_pixels false set = refl
      by_pixels true set = and_both _ _ (draw_valid draw (set refl) valid taken) refl

row_valid : (rows : List Row) (canvas : ℕ × ℕ) (sound : ℕ → Bool) (list : Lister) →
    Valid sound list → (steps : List Step) → list_all is_step steps ≡ true → (row : Row) →
    row_is_sound rows canvas sound row ≡ true → (blend : Blend) →
    list_all is_draw (row_draws rows canvas list steps blend row) ≡ true
row_valid rows canvas sound list valid steps taken row passed blend =
    by_kind (has_items row.kind) (and_second _ _ passed) where
      by_kind : (b : Bool) →
          cond b (list_all (item_is_sound rows canvas sound) row.items) true ≡ true →
          list_all is_draw (cond b (flat_map (item_draws rows canvas list steps) row.items)
          (draws_with steps blend row.settings row.since)) ≡ true
      by_kind true items = items_valid rows canvas sound list valid steps taken row.items items
      by_kind false items = input_valid steps taken blend row.settings row.since
          (and_second _ _ (and_first _ _ passed))

found_valid : (rows : List Row) (canvas : ℕ × ℕ) (sound : ℕ → Bool) (list : Lister) →
    Valid sound list → (steps : List Step) → list_all is_step steps ≡ true →
    (found : Option Row) → found_is_sound rows canvas sound found ≡ true → (blend : Blend) →
    list_all is_draw (found_draws rows canvas list steps blend found) ≡ true
found_valid rows canvas sound list valid steps taken None passed blend = refl
found_valid rows canvas sound list valid steps taken (Some row) passed blend =
    row_valid rows canvas sound list valid steps taken row passed blend

listed_valid : (rows : List Row) (canvas : ℕ × ℕ) (n : ℕ) →
    Valid (is_sound rows canvas n) (listed rows canvas n)
listed_valid rows canvas zero steps blend x taken passed = refl
listed_valid rows canvas (suc n) steps blend x taken passed =
    found_valid rows canvas (is_sound rows canvas n) (listed rows canvas n)
    (listed_valid rows canvas n) steps taken (find_row rows x) passed blend

roots_valid : (rows : List Row) (canvas : ℕ × ℕ) (roots : List ℕ) →
    list_all (is_sound rows canvas depth) roots ≡ true →
    list_all is_draw (flat_map (listed rows canvas depth [] Normal) roots) ≡ true
roots_valid rows canvas [] passed = refl
roots_valid rows canvas (root ∷ roots) passed =
    all_append is_draw (listed rows canvas depth [] Normal root) _
    (listed_valid rows canvas depth [] Normal root refl (and_first _ _ passed))
    (roots_valid rows canvas roots (and_second _ _ passed))

-- each draw that a plan lists of sound roots is valid
pub plan_is_valid : (rows : List Row) (canvas : ℕ × ℕ) (roots : List ℕ) (draws : List Draw) →
    draws ≡ plan_of rows canvas roots → list_all (is_sound rows canvas depth) roots ≡ true →
    list_all is_draw draws ≡ true
unfolding plan_of
plan_is_valid rows canvas roots draws is passed = rw is (roots_valid rows canvas roots passed)
