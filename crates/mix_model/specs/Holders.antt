-- What holds a source, and which sources have a name.
use Rattle.std.specs.Prelude.{ℕ, Bool, true, false, List, [], ◌∷◌, ◌++◌, ◌+◌, ◌==◌, ◌&&◌, ◌||◌}
use Rattle.std.specs.Prelude.{map, filter, find, flat_map}
use Rattle.std.specs.Prelude.{Option, Some, None, bytes_eq}
use Rattle.std.specs.List.{list_any}
use Rattle.mix_model.specs.declared.row.Row.{Row}
use Rattle.mix_model.specs.Sets.{has}
use Rattle.mix_model.specs.Rows.{is_group, shows}
use Rattle.mix_model.specs.State.{GraphState, Channel, Hold, Frame}
use Rattle.mix_model.specs.Lookups.{registry, named_by, row_of}

-- a place that holds a row: the registry, a channel by its number, an item by its row and its id, a
-- hold by its id, a frame in flight by its number
pub data Holder : Type 0 where
  InRegistry : Holder
  InChannel : ℕ → Holder
  InItem : ℕ → ℕ → Holder
  InHold : ℕ → Holder
  InFrame : ℕ → Holder

-- the place, where the test is passed
abbrev pub place_if : Bool → Holder → List Holder
place_if true place = place ∷ []
place_if false place = []

-- the channels that name x, counted from this number on
abbrev pub channel_places : ℕ → ℕ → List Channel → List Holder
channel_places x number [] = []
channel_places x number (channel ∷ channels) =
    place_if (has x (named_by channel)) (InChannel number) ++ channel_places x (number + 1) channels

-- the items of a row that show x
abbrev pub item_places : ℕ → Row → List Holder
item_places x row = map (λ i. InItem row.serial i.id) (filter (shows x) row.items)

-- the hold, where it is on x
abbrev pub hold_place : ℕ → Hold → List Holder
hold_place x hold = place_if (hold.serial == x) (InHold hold.id)

-- the frame, where it lists x
abbrev pub frame_place : ℕ → Frame → List Holder
frame_place x frame = place_if (has x frame.serials) (InFrame frame.number)

-- the places that hold x: the registry, channels, items of any row, also of one that dies, holds,
-- and frames in flight. The preview and watches hold nothing
unfoldable pub holders : GraphState → ℕ → List Holder
holders g x =
    place_if (has x (registry g)) InRegistry
    ++ (channel_places x 0 g.channels
    ++ (flat_map (item_places x) g.rows
    ++ (flat_map (hold_place x) g.holds
    ++ flat_map (frame_place x) g.frames)))

-- the channel names x
abbrev pub names : ℕ → Channel → Bool
names x channel = has x (named_by channel)

-- an item of the row shows x
abbrev pub shows_some : ℕ → Row → Bool
shows_some x row = list_any (shows x) row.items

-- the hold is on x
abbrev pub is_on : ℕ → Hold → Bool
is_on x hold = hold.serial == x

-- the frame lists x
abbrev pub lists : ℕ → Frame → Bool
lists x frame = has x frame.serials

-- whether some place holds x
unfoldable pub is_held : GraphState → ℕ → Bool
is_held g x = has x (registry g) || (list_any (names x) g.channels
    || (list_any (shows_some x) g.rows
    || (list_any (is_on x) g.holds || list_any (lists x) g.frames)))

-- a row is named when it is in the registry, or is a group that something holds
unfoldable pub is_named_row : GraphState → Row → Bool
is_named_row g row = has row.serial (registry g) || (is_group row.kind && is_held g row.serial)

abbrev pub named_row_or_none : GraphState → Option Row → Bool
named_row_or_none g None = false
named_row_or_none g (Some row) = is_named_row g row

-- whether the serial is that of a named row
abbrev pub is_named : GraphState → ℕ → Bool
is_named g x = named_row_or_none g (row_of g x)

-- the named row of this name: a look-up by name finds no other
abbrev pub find_named : GraphState → List ℕ → Option Row
find_named g name = find (λ r. is_named_row g r && bytes_eq r.name name) g.rows

-- whether a named row has this name
abbrev pub has_name : GraphState → List ℕ → Bool
has_name g name = named_row_or_none g (find_named g name)
