-- What a plan has seen on its way: valid rows, and items that can be steps.
use Rattle.std.specs.Prelude.{ℕ, zero, suc, Bool, true, ◌&&◌, List, if◌then◌else◌}
use Rattle.std.specs.Prelude.{Option, Some, None}
use Rattle.std.specs.List.{list_all}
use Rattle.mix_model.specs.declared.item.Item.{Item}
use Rattle.mix_model.specs.declared.row.Row.{Row}
use Rattle.mix_model.specs.Rows.{has_items, is_visible}
use Rattle.mix_model.specs.Lookups.{find_row}
use Rattle.mix_model.specs.Values.{are_settings}
use Rattle.mix_model.specs.Plans.{is_step}
use Rattle.mix_plan.specs.Listed.{step_of}

-- a visible item is a step that can be taken, and what it shows is sound
abbrev pub item_is_sound : List Row → ℕ × ℕ → (ℕ → Bool) → Item → Bool
item_is_sound rows canvas sound item = if is_visible item
    then is_step (step_of rows canvas item) && sound item.child else true

-- a row has settings of its kind in their ranges, and its items are sound
abbrev pub row_is_sound : List Row → ℕ × ℕ → (ℕ → Bool) → Row → Bool
row_is_sound rows canvas sound row = are_settings row.kind row.settings
    && (if has_items row.kind then list_all (item_is_sound rows canvas sound) row.items else true)

abbrev pub found_is_sound : List Row → ℕ × ℕ → (ℕ → Bool) → Option Row → Bool
found_is_sound rows canvas sound None = true
found_is_sound rows canvas sound (Some row) = row_is_sound rows canvas sound row

-- whatever is drawn of a row is sound, down through at most so many scenes and groups
abbrev pub is_sound : List Row → ℕ × ℕ → ℕ → ℕ → Bool
is_sound rows canvas zero x = true
is_sound rows canvas (suc deeper) x =
    found_is_sound rows canvas (is_sound rows canvas deeper) (find_row rows x)
