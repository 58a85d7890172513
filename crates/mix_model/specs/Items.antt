-- What edits make of the items of one row. Items lie from bottom to top.
use Rattle.std.specs.Prelude.{ℕ, Bool, List, [], ◌∷◌, ◌++◌, ◌+◌, not, map}
use Rattle.std.specs.Prelude.{filter, take, drop, if◌then◌else◌}
use Rattle.mix_model.specs.declared.kind.Blend.{Blend}
use Rattle.mix_model.specs.declared.place.Place.{Place}
use Rattle.mix_model.specs.declared.item.Item.{Item}
use Rattle.mix_model.specs.declared.item.ItemSpec.{ItemSpec}
use Rattle.mix_model.specs.declared.row.Row.{Row}
use Rattle.mix_model.specs.Rows.{has_id, shows}

-- what an item is asked to be
abbrev pub asked : Bool → Bool → Place → Blend → ItemSpec
asked enabled locked place blend = record {
  enabled = enabled;
  locked = locked;
  place = place;
  blend = blend;
}

-- a new item, as it was asked to be
unfoldable pub new_item : ℕ → ℕ → ItemSpec → Item
new_item id child spec = record {
  id = id;
  child = child;
  enabled = spec.enabled;
  locked = spec.locked;
  place = spec.place;
  blend = spec.blend;
}

-- a copy of an item is asked to be what the item is
unfoldable pub spec_of : Item → ItemSpec
spec_of item = asked item.enabled item.locked item.place item.blend

-- a new item lies on top. Ids count up from 1 in each scene or group, and none is used again there
unfoldable pub with_item : ℕ → ItemSpec → Row → Row
with_item child spec row = record row {
  items = row.items ++ new_item row.next_item child spec ∷ [];
  next_item = row.next_item + 1;
}

-- the row without the item of this id
unfoldable pub without_item : ℕ → Row → Row
without_item id row = record row { items = filter (λ i. not (has_id id i)) row.items }

-- the row without the items that show x
unfoldable pub without_child : ℕ → Row → Row
without_child x row = record row { items = filter (λ i. not (shows x i)) row.items }

-- the item of this id is changed, and no other
unfoldable pub with_item_changed : ℕ → (Item → Item) → Row → Row
with_item_changed id change row = record row {
  items = map (λ i. if has_id id i then change i else i) row.items;
}

abbrev pub enabled_as : Bool → Item → Item
enabled_as enabled item = record item { enabled = enabled }

abbrev pub locked_as : Bool → Item → Item
locked_as locked item = record item { locked = locked }

abbrev pub placed_at : Place → Blend → Item → Item
placed_at place blend item = record item { place = place; blend = blend }

-- the item of this id comes to lie at this index, and the others keep their order
unfoldable pub with_item_at : ℕ → ℕ → Row → Row
with_item_at id index row = let others : List Item = filter (λ i. not (has_id id i)) row.items in
    record row {
      items = take index others ++ (filter (has_id id) row.items ++ drop index others);
    }
