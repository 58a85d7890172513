-- DuplicateSceneItem: a copy of an item, on top of its own or another scene or group.
use Rattle.std.specs.Prelude.{ℕ, List, [], ◌∷◌, codes, length, ◌==◌, Option, Some, None, Result, Ok, Err}
use Rattle.std.specs.Prelude.{if◌then◌else◌}
use Rattle.mix_base.specs.Json.{Object}
use Rattle.mix_json.specs.Fields.{◌>>=◌, opt_text}
use Rattle.mix_model.specs.declared.body.Body.{Body}
use Rattle.mix_model.specs.declared.notes.Notes.{Notes}
use Rattle.mix_model.specs.Causes.{copy_cause}
use Rattle.mix_model.specs.Edits.{item_duplicated}
use Rattle.mix_model.specs.State.{GraphState, StudioState}
use Rattle.mix_requests.specs.declared.caller.Caller.{Caller}
use Rattle.mix_requests.specs.Effects.{Effect}
use Rattle.mix_requests.specs.NewItems.{next_item}
use Rattle.mix_requests.specs.Read.{needed_fields, sought_name}
use Rattle.mix_requests.specs.Refusals.{refused_by}
use Rattle.mix_requests.specs.Sources.{edited_alone}
use Rattle.mix_req_items.specs.declared.creating.Ends.{Ends}
use Rattle.mix_req_items.specs.declared.found.Found.{Found}
use Rattle.mix_req_items.specs.CreateSceneItem.{created_event, id_answer}
use Rattle.mix_req_items.specs.Finding.{holder_sought, item_named}
use Rattle.mix_req_items.specs.Numbers.{item_id}

-- a name that may be missing or null: 403 where it is empty
abbrev pub not_empty : Option (List ℕ) → Result (Option (List ℕ)) ℕ
not_empty None = Ok None
not_empty (Some name) = if length name == 0 then Err 403 else Ok (Some name)

unfoldable pub destination_name : Object → Result (Option (List ℕ)) ℕ
destination_name fields = opt_text (codes "destinationSceneName") fields >>= not_empty

-- where the copy goes: to the scene or group of the name, or to the item's own
abbrev pub destination : GraphState → ℕ → Option (List ℕ) → Result ℕ ℕ
destination g own None = Ok own
destination g own (Some name) = holder_sought g name

-- the copy shows what the item shows
abbrev pub copy_ends : Found → ℕ → Ends
copy_ends found to = record { holder = to; child = found.item.child }

-- what comes of it where nothing refuses it
abbrev pub item_copy : StudioState → Notes → Found → ℕ → Effect
item_copy s notes found to = record {
  answer = Some (id_answer (next_item s.graph to));
  events = created_event s.graph to found.item.child ∷ [];
  studio = edited_alone (item_duplicated found.holder found.item.id to) s;
  notes = notes;
}

-- 700 for a circle or too deep a nesting, 603 where there would be too much
unfoldable pub duplicate_scene_item : StudioState → Notes → Caller → Body → Result Effect ℕ
duplicate_scene_item s notes caller body = do
  fields ← needed_fields body
  name ← sought_name (codes "sceneName") fields
  id ← item_id fields
  to_name ← destination_name fields
  found ← item_named s.graph name id
  to ← destination s.graph found.holder to_name
  may ← refused_by (copy_cause s.graph found.holder found.item.id to
      (item_duplicated found.holder found.item.id to s.graph))
  Ok (item_copy s notes found to)
