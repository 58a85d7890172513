-- A new item, and perhaps a new row that it shows, beside the rows as they are: what their ranks and
-- weights would be, and so why the item is refused.
use Rattle.std.specs.Prelude.{ℕ, List, [], ◌∷◌, not, find, nat_le, Option, Some, None}
use Rattle.std.specs.Prelude.{if◌then◌else◌, ◌==◌, ◌&&◌, ◌+◌}
use Rattle.std.specs.List.{list_all}
use Rattle.mix_base.specs.Limits.{most_rows, most_items, most_weight}
use Rattle.mix_model.specs.declared.row.Row.{Row}
use Rattle.mix_model.specs.Sets.{has}
use Rattle.mix_model.specs.Rows.{is_at, children_of, has_items}
use Rattle.mix_model.specs.declared.fault.GraphFault.{GraphFault}
use Rattle.mix_model.specs.declared.fault.GraphFault.TheVariants.{Depth, TooMany}
use Rattle.mix_model.specs.Causes.{Cause, above, first_cause, item_count}
use Rattle.mix_model.specs.Ranks.{rank_by, weight_by}
use Rattle.mix_shape.specs.declared.new_item.NewItem.{NewItem}

-- the children of a row, and that of an item that would be new
abbrev pub children_with : NewItem → Row → List ℕ
children_with new row = if row.serial == new.parent then new.child ∷ children_of row else children_of row

-- what is inside a serial that is no row: nothing, or a group that would be new and has no items
abbrev pub inside_new : NewItem → ℕ → Option (List ℕ)
inside_new new x = if new.group && (new.child == x) then Some [] else None

abbrev pub inside_or_new : NewItem → ℕ → Option Row → Option (List ℕ)
inside_or_new new x None = inside_new new x
inside_or_new new x (Some row) = if has_items row.kind then Some (children_with new row) else None

-- what would be inside a scene or group
abbrev pub inside_with : NewItem → List Row → ℕ → Option (List ℕ)
inside_with new rows x = inside_or_new new x (find (is_at x) rows)

-- the rank of a row, with an item that would be new
unfoldable pub rank_with : NewItem → List Row → ℕ → ℕ
rank_with new rows x = rank_by (inside_with new rows) 17 x

-- the weight of a row, with an item that would be new
unfoldable pub weight_with : NewItem → List Row → ℕ → ℕ
weight_with new rows x = weight_by (inside_with new rows) 17 x

-- what an item is refused for, where there would be so many rows
abbrev pub causes_with : NewItem → List Row → ℕ → List Cause
causes_with new rows count =
    (not (list_all (λ r. nat_le (rank_with new rows r.serial) 16) rows), Depth)
    ∷ (above most_rows count ∷ (above most_items (item_count rows + 1)
    ∷ ((
      not (list_all (λ r. nat_le (weight_with new rows r.serial) most_weight) rows),
      TooMany most_weight,
    ) ∷ [])))

unfoldable pub late_cause_with : NewItem → List Row → ℕ → Option GraphFault
late_cause_with new rows count = first_cause (causes_with new rows count)
