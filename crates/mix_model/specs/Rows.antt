-- Sources as rows: what sort a row is of, which children its items show, and what a new row is.
use Rattle.std.specs.Prelude.{ℕ, Bool, true, false, List, [], ◌==◌, ◌||◌, not, map, filter}
use Rattle.std.specs.List.{list_all}
use Rattle.mix_model.specs.declared.kind.Kind.{Kind}
use Rattle.mix_model.specs.declared.kind.Kind.TheVariants.{Scene, Group, Tone}
use Rattle.mix_model.specs.declared.settings.Settings.{Settings}
use Rattle.mix_model.specs.declared.place.Sound.{Sound}
use Rattle.mix_model.specs.declared.item.Item.{Item}
use Rattle.mix_model.specs.declared.row.Row.{Row}

-- a source is a scene, a group, or an input of one of the further kinds
abbrev pub is_scene : Kind → Bool
is_scene Scene = true
is_scene _ = false

abbrev pub is_group : Kind → Bool
is_group Group = true
is_group _ = false

-- scenes and groups have items
abbrev pub has_items : Kind → Bool
has_items kind = is_scene kind || is_group kind

abbrev pub is_input : Kind → Bool
is_input kind = not (has_items kind)

-- of the inputs only a tone is heard
abbrev pub is_tone : Kind → Bool
is_tone Tone = true
is_tone _ = false

-- an item is visible when it is enabled: walks go through visible items alone
abbrev pub is_visible : Item → Bool
is_visible item = item.enabled

-- the row has this serial
abbrev pub is_at : ℕ → Row → Bool
is_at x row = row.serial == x

-- the item has this id
abbrev pub has_id : ℕ → Item → Bool
has_id id item = item.id == id

-- the item shows x
abbrev pub shows : ℕ → Item → Bool
shows x item = item.child == x

-- the children of a row, from bottom to top, each as often as an item shows it
abbrev pub children_of : Row → List ℕ
children_of row = map (λ i. i.child) row.items

-- the children that its visible items show
abbrev pub visible_children_of : Row → List ℕ
visible_children_of row = map (λ i. i.child) (filter is_visible row.items)

abbrev pub serials_of : List Row → List ℕ
serials_of rows = map (λ r. r.serial) rows

-- the test holds of each item of each row, beside its row
abbrev pub all_items : (Row → Item → Bool) → List Row → Bool
all_items test rows = list_all (λ r. list_all (test r) r.items) rows

-- a new source has no items, its first item will have the id 1, and it was never active
unfoldable pub new_row : ℕ → List ℕ → Kind → Settings → Sound → Row
new_row serial name kind settings sound = record {
  serial = serial;
  name = name;
  kind = kind;
  settings = settings;
  sound = sound;
  since = 0;
  items = [];
  next_item = 1;
}
