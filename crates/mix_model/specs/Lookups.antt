-- Rows by their serials, the registry, and what channels name.
use Rattle.std.specs.Prelude.{ℕ, Bool, false, List, [], ◌++◌, Option, Some, None, find}
use Rattle.std.specs.Prelude.{option_to_list, is_some, flat_map}
use Rattle.std.specs.Option.{option_map_or}
use Rattle.mix_model.specs.declared.item.Item.{Item}
use Rattle.mix_model.specs.declared.row.Row.{Row}
use Rattle.mix_model.specs.Rows.{is_at, has_id, children_of, visible_children_of}
use Rattle.mix_model.specs.State.{GraphState, Channel}

-- the row of this serial, among these rows
abbrev pub find_row : List Row → ℕ → Option Row
find_row rows x = find (is_at x) rows

abbrev pub has_row : List Row → ℕ → Bool
has_row rows x = is_some (find_row rows x)

-- the row of this serial
abbrev pub row_of : GraphState → ℕ → Option Row
row_of g x = find_row g.rows x

-- whether there is a row of this serial
abbrev pub is_row : GraphState → ℕ → Bool
is_row g x = has_row g.rows x

-- the row of this serial is there and passes the test
abbrev pub row_passes : GraphState → (Row → Bool) → ℕ → Bool
row_passes g test x = option_map_or test (row_of g x) false

abbrev pub items_or_none : Option Row → List Item
items_or_none None = []
items_or_none (Some row) = row.items

-- the items of the row of this serial, none where there is no such row
abbrev pub items_in : List Row → ℕ → List Item
items_in rows x = items_or_none (find_row rows x)

abbrev pub items_of : GraphState → ℕ → List Item
items_of g x = items_in g.rows x

-- the item of this id of a row
abbrev pub item_at : GraphState → ℕ → ℕ → Option Item
item_at g parent id = find (has_id id) (items_of g parent)

-- the children of a row by its serial
abbrev pub children : GraphState → ℕ → List ℕ
children g x = option_map_or children_of (row_of g x) []

-- those that its visible items show, among these rows
abbrev pub visible_in : List Row → ℕ → List ℕ
visible_in rows x = option_map_or visible_children_of (find_row rows x) []

abbrev pub visible_children : GraphState → ℕ → List ℕ
visible_children g x = visible_in g.rows x

-- the registry: the scenes and then the inputs, each in order of creation; groups aren't in it
abbrev pub registry : GraphState → List ℕ
registry g = g.scenes ++ g.inputs

-- the rows that a channel names, both ends of a fade included
abbrev pub named_by : Channel → List ℕ
named_by channel = option_to_list channel.0 ++ option_to_list channel.1

-- the rows that some channel names
abbrev pub channel_roots : GraphState → List ℕ
channel_roots g = flat_map named_by g.channels
