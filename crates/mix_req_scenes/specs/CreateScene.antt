-- CreateScene: a scene more, last in the registry.
use Rattle.std.specs.Prelude.{ℕ, [], ◌∷◌, codes, Some, Result, Ok}
use Rattle.mix_base.specs.declared.json.Json.{Json}
use Rattle.mix_base.specs.declared.json.Json.TheVariants as json
use Rattle.mix_base.specs.Uuids.{uuid_of}
use Rattle.mix_json.specs.Fields.{◌>>=◌}
use Rattle.mix_json.specs.Trees.{obj_of}
use Rattle.mix_model.specs.declared.body.Body.{Body}
use Rattle.mix_model.specs.declared.event.Event.TheVariants.{SceneCreated}
use Rattle.mix_model.specs.declared.notes.Notes.{Notes}
use Rattle.mix_model.specs.State.{StudioState}
use Rattle.mix_model.specs.Causes.{scene_cause}
use Rattle.mix_model.specs.Edits.{scene_created}
use Rattle.mix_requests.specs.declared.caller.Caller.{Caller}
use Rattle.mix_requests.specs.Effects.{Effect}
use Rattle.mix_requests.specs.Read.{needed_fields, new_name}
use Rattle.mix_requests.specs.Refusals.{refused_by}
use Rattle.mix_requests.specs.Sources.{edited_alone}

-- the answer to who made a scene
unfoldable pub scene_answer : ℕ → Json
scene_answer serial = json.Obj (obj_of ((codes "sceneUuid", json.Text (uuid_of serial)) ∷ []))

-- 601 where a named source has the name, and 603 where there would be too much
unfoldable pub create_scene : StudioState → Notes → Caller → Body → Result Effect ℕ
create_scene s notes caller body = do
  fields ← needed_fields body
  name ← new_name (codes "sceneName") fields
  may ← refused_by (scene_cause s.graph name (scene_created name s.graph))
  Ok (record {
    answer = Some (scene_answer s.graph.next_serial);
    events = SceneCreated name s.graph.next_serial ∷ [];
    studio = edited_alone (scene_created name) s;
    notes = notes;
  })
