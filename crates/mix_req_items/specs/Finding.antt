-- Scenes, groups and items that requests name, and the statuses of those that aren't found.
use Rattle.std.specs.Prelude.{◌≡◌, ℕ, ◌+◌, true, List, [], ◌∷◌, codes, Option, Result, option_map}
use Rattle.std.specs.Prelude.{if◌then◌else◌, Some}
use Rattle.mix_json.specs.Fields.{◌>>=◌, or_status}
use Rattle.mix_model.specs.declared.body.Body.{Body}
use Rattle.mix_model.specs.declared.item.Item.{Item}
use Rattle.mix_model.specs.Holders.{is_named}
use Rattle.mix_model.specs.Lookups.{item_at, items_of}
use Rattle.mix_model.specs.Rows.{has_id, has_items}
use Rattle.mix_model.specs.State.{GraphState}
use Rattle.mix_requests.specs.Read.{needed_fields, sought_name}
use Rattle.mix_requests.specs.Sought.{sought}
use Rattle.mix_req_items.specs.declared.found.Found.{Found}
use Rattle.mix_req_items.specs.Numbers.{item_id}

-- the scene or group of a name: 600 where no named row has it, 602 where it is an input
unfoldable pub holder_sought : GraphState → List ℕ → Result ℕ ℕ
holder_sought = sought has_items

-- the source of a name, of whatever sort
unfoldable pub source_sought : GraphState → List ℕ → Result ℕ ℕ
source_sought = sought (λ kind. true)

-- how many items lie below the first one of this id
abbrev pub index_in : ℕ → List Item → ℕ
index_in id [] = 0
index_in id (item ∷ items) = if has_id id item then 0 else index_in id items + 1

-- the place of the item of an id, counted from 0 at the bottom
abbrev pub place_of : GraphState → ℕ → ℕ → Option ℕ
place_of g holder id =
    option_map (λ (i : Item). index_in id (items_of g holder)) (item_at g holder id)

-- an item with the scene or group that it is of, and its place there, counted from 0 at the bottom
abbrev pub found_at : ℕ → ℕ → Item → Found
found_at holder index item = record { holder = holder; index = index; item = item }

-- the item of an id: 600 where the scene or group has none
unfoldable pub item_sought : GraphState → ℕ → ℕ → Result Found ℕ
item_sought g holder id = or_status 600
    (option_map (found_at holder (index_in id (items_of g holder))) (item_at g holder id))

-- an item by the name of its scene or group and its id
unfoldable pub item_named : GraphState → List ℕ → ℕ → Result Found ℕ
item_named g name id = holder_sought g name >>= λ holder. item_sought g holder id

-- the item that a request names, which needs nothing else
unfoldable pub found_item : GraphState → Body → Result Found ℕ
found_item g body = do
  fields ← needed_fields body
  name ← sought_name (codes "sceneName") fields
  id ← item_id fields
  item_named g name id

-- an item that was found is one of a named row
pub record IsFound (g : GraphState) (found : Found) : Type 0 where
  pub named : is_named g found.holder ≡ true
  pub item : item_at g found.holder found.item.id ≡ Some found.item
