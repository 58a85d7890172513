-- What each call does to the sources, before the settling.
use Rattle.std.specs.Prelude.{ℕ, Bool, List, [], ◌∷◌, ◌++◌, ◌+◌, ◌==◌, not, map, filter}
use Rattle.std.specs.Prelude.{Option, Some, None, if◌then◌else◌, slice_set, replicate}
use Rattle.mix_model.specs.declared.kind.Kind.{Kind}
use Rattle.mix_model.specs.declared.kind.Kind.TheVariants.{Scene, Group}
use Rattle.mix_model.specs.declared.kind.Blend.{Blend}
use Rattle.mix_model.specs.declared.settings.Settings.{Settings}
use Rattle.mix_model.specs.declared.settings.Settings.TheVariants.{None as NoSettings}
use Rattle.mix_model.specs.declared.place.Place.{Place}
use Rattle.mix_model.specs.declared.place.Sound.{Sound}
use Rattle.mix_model.specs.declared.item.Item.{Item}
use Rattle.mix_model.specs.declared.item.ItemSpec.{ItemSpec}
use Rattle.mix_model.specs.declared.row.Row.{Row}
use Rattle.mix_model.specs.Sets.{has, without}
use Rattle.mix_model.specs.Rows.{is_at, new_row}
use Rattle.mix_model.specs.Items.{with_item, without_item, without_child, with_item_changed}
use Rattle.mix_model.specs.Items.{with_item_at, spec_of, enabled_as, locked_as, placed_at}
use Rattle.mix_model.specs.State.{GraphState, Channel}
use Rattle.mix_model.specs.Lookups.{named_by, item_at}
use Rattle.mix_model.specs.Walks.{active_rows}
use Rattle.mix_model.specs.Values.{new_sound}

-- the row of this serial is changed, and no other
abbrev pub row_changed : ℕ → (Row → Row) → GraphState → GraphState
row_changed x change g = record g { rows = map (λ r. if is_at x r then change r else r) g.rows }

-- a new row under the next serial. It comes last, since serials count up and none is used again
abbrev pub row_added : List ℕ → Kind → Settings → GraphState → GraphState
row_added name kind settings g = record g {
  rows = g.rows ++ new_row g.next_serial name kind settings new_sound ∷ [];
  next_serial = g.next_serial + 1;
}

-- a scene, last in the registry's list of scenes
unfoldable pub scene_created : List ℕ → GraphState → GraphState
scene_created name g = record (row_added name Scene NoSettings g) {
  scenes = g.scenes ++ g.next_serial ∷ [];
}

-- an item on top of its parent
unfoldable pub item_added : ℕ → ℕ → ItemSpec → GraphState → GraphState
item_added parent child spec g = row_changed parent (with_item child spec) g

-- a group, with an item of its parent that shows it; it isn't in the registry
unfoldable pub group_created : List ℕ → ℕ → ItemSpec → GraphState → GraphState
group_created name parent spec g =
    item_added parent g.next_serial spec (row_added name Group NoSettings g)

-- an input, last in the registry's list of inputs
unfoldable pub input_created : List ℕ → Kind → Settings → GraphState → GraphState
input_created name kind settings g = record (row_added name kind settings g) {
  inputs = g.inputs ++ g.next_serial ∷ [];
}

-- an input with an item of a parent that shows it
unfoldable pub shown_input_created :
    List ℕ → Kind → Settings → ℕ → ItemSpec → GraphState → GraphState
shown_input_created name kind settings parent spec g =
    item_added parent g.next_serial spec (input_created name kind settings g)

-- a copy of an item on top of a scene or group, under an id of its own
abbrev pub copied_to : ℕ → Option Item → GraphState → GraphState
copied_to to None g = g
copied_to to (Some item) g = row_changed to (with_item item.child (spec_of item)) g

unfoldable pub item_duplicated : ℕ → ℕ → ℕ → GraphState → GraphState
item_duplicated parent id to g = copied_to to (item_at g parent id) g

unfoldable pub item_removed : ℕ → ℕ → GraphState → GraphState
item_removed parent id g = row_changed parent (without_item id) g

-- an item is enabled or not, locked or not, and stands somewhere
unfoldable pub item_enabled : ℕ → ℕ → Bool → GraphState → GraphState
item_enabled parent id enabled g =
    row_changed parent (with_item_changed id (enabled_as enabled)) g

unfoldable pub item_locked : ℕ → ℕ → Bool → GraphState → GraphState
item_locked parent id locked g = row_changed parent (with_item_changed id (locked_as locked)) g

unfoldable pub item_placed : ℕ → ℕ → Place → Blend → GraphState → GraphState
item_placed parent id place blend g =
    row_changed parent (with_item_changed id (placed_at place blend)) g

-- an item comes to lie at an index of its parent
unfoldable pub item_moved : ℕ → ℕ → ℕ → GraphState → GraphState
item_moved parent id index g = row_changed parent (with_item_at id index) g

abbrev pub set_to : Settings → Sound → Row → Row
set_to settings sound row = record row { settings = settings; sound = sound }

unfoldable pub input_set : ℕ → Settings → Sound → GraphState → GraphState
input_set x settings sound g = row_changed x (set_to settings sound) g

abbrev pub named_as : List ℕ → Row → Row
named_as name row = record row { name = name }

unfoldable pub renamed : ℕ → List ℕ → GraphState → GraphState
renamed x name g = row_changed x (named_as name) g

abbrev pub no_row : Channel
no_row = (None, None)

-- a channel that names x comes to name nothing
abbrev pub emptied_of : ℕ → Channel → Channel
emptied_of x channel = if has x (named_by channel) then no_row else channel

-- a source is removed: each item that shows it goes, the channels that name it are emptied, and it
-- leaves the registry. Its row stays, with its items, until it is destroyed
unfoldable pub source_removed : ℕ → GraphState → GraphState
source_removed x g = record g {
  rows = map (without_child x) g.rows;
  channels = map (emptied_of x) g.channels;
  scenes = without x g.scenes;
  inputs = without x g.inputs;
}

-- holds and watches count up from 1, over all connections
unfoldable pub hold_made : ℕ → GraphState → GraphState
hold_made x g = record g {
  holds = g.holds ++ record { id = g.next_hold; serial = x } ∷ [];
  next_hold = g.next_hold + 1;
}

unfoldable pub watch_made : ℕ → GraphState → GraphState
watch_made x g = record g {
  watches = g.watches ++ record { id = g.next_watch; serial = x } ∷ [];
  next_watch = g.next_watch + 1;
}

-- a frame lists the rows that are active when it is taken
unfoldable pub frame_held : ℕ → GraphState → GraphState
frame_held number g = record g {
  frames = g.frames ++ record { number = number; serials = active_rows g } ∷ [];
}

unfoldable pub hold_released : ℕ → GraphState → GraphState
hold_released id g = record g { holds = filter (λ h. not (h.id == id)) g.holds }

unfoldable pub watch_dropped : ℕ → GraphState → GraphState
watch_dropped id g = record g { watches = filter (λ w. not (w.id == id)) g.watches }

-- holds are released and watches are dropped, as one edit: so the rows that lose their last holder
-- begin to die by rising serial
unfoldable pub let_go : List ℕ → List ℕ → GraphState → GraphState
let_go holds watches g = record g {
  holds = filter (λ h. not (has h.id holds)) g.holds;
  watches = filter (λ w. not (has w.id watches)) g.watches;
}

unfoldable pub frame_released : ℕ → GraphState → GraphState
frame_released number g = record g { frames = filter (λ f. not (f.number == number)) g.frames }

-- what a channel names, what the preview refers to, and the clock
unfoldable pub channel_set : ℕ → Channel → GraphState → GraphState
channel_set number channel g = record g { channels = slice_set g.channels number channel }

unfoldable pub preview_set : Option ℕ → GraphState → GraphState
preview_set to g = record g { preview = to }

unfoldable pub clock_set : ℕ → GraphState → GraphState
clock_set clock g = record g { clock = clock }

-- the first row that dies goes, with its items, and no other row: what it alone held then begins to
-- die, and stays for a later destruction
abbrev pub without_first : List ℕ → GraphState → GraphState
without_first [] g = g
without_first (x ∷ rest) g = record g {
  rows = filter (λ r. not (is_at x r)) g.rows;
  dying = rest;
}

unfoldable pub next_destroyed : GraphState → GraphState
next_destroyed g = without_first g.dying g

-- no source: sixty-four empty channels, no preview, and each number from its first one
unfoldable pub empty_graph : GraphState
empty_graph = record {
  rows = [];
  scenes = [];
  inputs = [];
  channels = replicate 64 no_row;
  preview = None;
  holds = [];
  watches = [];
  frames = [];
  dying = [];
  clock = 0;
  next_serial = 1;
  next_hold = 1;
  next_watch = 1;
}
