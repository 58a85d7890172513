-- SetSceneItemEnabled and SetSceneItemLocked: whether an item is seen, and whether it is locked. A value
-- that stands already changes and tells nothing.
use Rattle.std.specs.Prelude.{ℕ, Bool, List, [], ◌∷◌, codes, Result, Ok, if◌then◌else◌}
use Rattle.mix_json.specs.Fields.{◌>>=◌, need_bool}
use Rattle.mix_model.specs.declared.body.Body.{Body}
use Rattle.mix_model.specs.declared.event.Event.{Event}
use Rattle.mix_model.specs.declared.event.Event.TheVariants as event
use Rattle.mix_model.specs.declared.item.Item.{Item}
use Rattle.mix_model.specs.declared.notes.Notes.{Notes}
use Rattle.mix_model.specs.Sets.{agree}
use Rattle.mix_model.specs.State.{StudioState}
use Rattle.mix_requests.specs.declared.caller.Caller.{Caller}
use Rattle.mix_requests.specs.Effects.{Effect}
use Rattle.mix_requests.specs.Named.{name_at}
use Rattle.mix_requests.specs.Read.{needed_fields, sought_name}
use Rattle.mix_req_items.specs.declared.changing.Change.{Change}
use Rattle.mix_req_items.specs.declared.changing.Change.TheVariants as change
use Rattle.mix_req_items.specs.declared.found.Found.{Found}
use Rattle.mix_req_items.specs.declared.flags.Flag.{Flag}
use Rattle.mix_req_items.specs.declared.flags.Flag.TheVariants as flag
use Rattle.mix_req_items.specs.Changes.{changed, changed_by, unchanged}
use Rattle.mix_req_items.specs.Finding.{item_named}
use Rattle.mix_req_items.specs.Numbers.{item_id}

-- the field of the request
abbrev pub flag_key : Flag → List ℕ
flag_key flag.Enabled = codes "sceneItemEnabled"
flag_key flag.Locked = codes "sceneItemLocked"

-- how it stands
abbrev pub flag_of : Flag → Item → Bool
flag_of flag.Enabled item = item.enabled
flag_of flag.Locked item = item.locked

-- what becomes of the item
abbrev pub flag_change : Flag → Bool → Change
flag_change flag.Enabled value = change.Enabled value
flag_change flag.Locked value = change.Locked value

abbrev pub flag_event : Flag → Bool → ℕ → List ℕ → ℕ → Event
flag_event flag.Enabled value id name holder =
    event.SceneItemEnableStateChanged value id name holder
flag_event flag.Locked value id name holder = event.SceneItemLockStateChanged id value name holder

-- what comes of it
unfoldable pub flagged : Flag → StudioState → Notes → Found → Bool → Effect
flagged which s notes found value =
    if agree value (flag_of which found.item) then unchanged s notes
    else changed s notes (changed_by (flag_change which value) found.holder found.item.id)
    (flag_event which value found.item.id (name_at s.graph found.holder) found.holder ∷ [])

unfoldable pub set_flag : Flag → StudioState → Notes → Caller → Body → Result Effect ℕ
set_flag which s notes caller body = do
  fields ← needed_fields body
  name ← sought_name (codes "sceneName") fields
  id ← item_id fields
  value ← need_bool (flag_key which) fields
  found ← item_named s.graph name id
  Ok (flagged which s notes found value)
