-- RemoveSceneItem: an item less.
use Rattle.std.specs.Prelude.{ℕ, [], ◌∷◌, Result, Ok}
use Rattle.mix_json.specs.Fields.{◌>>=◌}
use Rattle.mix_model.specs.declared.body.Body.{Body}
use Rattle.mix_model.specs.declared.event.Event.{Event}
use Rattle.mix_model.specs.declared.event.Event.TheVariants.{SceneItemRemoved}
use Rattle.mix_model.specs.declared.notes.Notes.{Notes}
use Rattle.mix_model.specs.Edits.{item_removed}
use Rattle.mix_model.specs.State.{GraphState, StudioState}
use Rattle.mix_requests.specs.declared.caller.Caller.{Caller}
use Rattle.mix_requests.specs.Effects.{Effect}
use Rattle.mix_requests.specs.Named.{name_at}
use Rattle.mix_req_items.specs.declared.found.Found.{Found}
use Rattle.mix_req_items.specs.Changes.{changed}
use Rattle.mix_req_items.specs.Finding.{found_item}

-- an item was taken out of its scene or group
abbrev pub removed_event : GraphState → Found → Event
removed_event g found = SceneItemRemoved found.item.id (name_at g found.holder) found.holder
    (name_at g found.item.child) found.item.child

unfoldable pub remove_scene_item : StudioState → Notes → Caller → Body → Result Effect ℕ
remove_scene_item s notes caller body = do
  found ← found_item s.graph body
  Ok (changed s notes (item_removed found.holder found.item.id) (removed_event s.graph found ∷ []))
