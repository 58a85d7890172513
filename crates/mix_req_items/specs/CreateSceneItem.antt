-- CreateSceneItem: an item more, on top of a scene, that shows a source.
use Rattle.std.specs.Prelude.{ℕ, pos, Bool, true, false, List, [], ◌∷◌, codes, length, Some, Result}
use Rattle.std.specs.Prelude.{IsTrue, Ok}
use Rattle.mix_base.specs.declared.json.Json.{Json}
use Rattle.mix_base.specs.declared.json.Json.TheVariants as json
use Rattle.mix_json.specs.Fields.{◌>>=◌, opt_bool}
use Rattle.mix_json.specs.Trees.{obj_of}
use Rattle.mix_model.specs.declared.body.Body.{Body}
use Rattle.mix_model.specs.declared.event.Event.{Event}
use Rattle.mix_model.specs.declared.event.Event.TheVariants.{SceneItemCreated}
use Rattle.mix_model.specs.declared.item.ItemSpec.{ItemSpec}
use Rattle.mix_model.specs.declared.kind.Blend.TheVariants.{Normal}
use Rattle.mix_model.specs.declared.notes.Notes.{Notes}
use Rattle.mix_model.specs.Causes.{item_cause}
use Rattle.mix_model.specs.Edits.{item_added}
use Rattle.mix_model.specs.Items.{asked}
use Rattle.mix_model.specs.Lookups.{is_row, items_of}
use Rattle.mix_model.specs.State.{GraphState, StudioState}
use Rattle.mix_model.specs.Values.{new_place}
use Rattle.mix_requests.specs.declared.caller.Caller.{Caller}
use Rattle.mix_requests.specs.Effects.{Effect}
use Rattle.mix_requests.specs.Named.{name_at}
use Rattle.mix_requests.specs.NewItems.{next_item}
use Rattle.mix_requests.specs.Read.{needed_fields, sought_name}
use Rattle.mix_requests.specs.Refusals.{refused_by}
use Rattle.mix_requests.specs.Sought.{scene_sought}
use Rattle.mix_requests.specs.Sources.{edited_alone}
use Rattle.mix_req_items.specs.declared.creating.Ends.{Ends}
use Rattle.mix_req_items.specs.Finding.{source_sought}

-- the answer with an item's id
unfoldable pub id_answer : ℕ → Json
id_answer id = json.Obj (obj_of ((codes "sceneItemId", json.Int (pos id)) ∷ []))

-- a new item lies on top of the others
abbrev pub created_event : GraphState → ℕ → ℕ → Event
created_event g holder child = SceneItemCreated (next_item g holder) (length (items_of g holder))
    (name_at g holder) holder (name_at g child) child

-- enabled or not, unlocked, at its default place, normal
abbrev pub plain_spec : Bool → ItemSpec
plain_spec enabled = asked enabled false new_place Normal

-- the scene and the source that it is to show: 600 where no source has the name, 602 where the first
-- one is no scene
unfoldable pub ends_sought : GraphState → List ℕ → List ℕ → Result Ends ℕ
ends_sought g name source_name = do
  scene ← scene_sought g name
  source ← source_sought g source_name
  Ok (record { holder = scene; child = source })

-- they are rows
pub record AreEnds (g : GraphState) (ends : Ends) : Type 0 where
  pub holder : IsTrue (is_row g ends.holder)
  pub child : IsTrue (is_row g ends.child)

-- what comes of it where nothing refuses it
abbrev pub item_creation : StudioState → Notes → Ends → Bool → Effect
item_creation s notes ends enabled = record {
  answer = Some (id_answer (next_item s.graph ends.holder));
  events = created_event s.graph ends.holder ends.child ∷ [];
  studio = edited_alone (item_added ends.holder ends.child (plain_spec enabled)) s;
  notes = notes;
}

-- 700 for a circle or too deep a nesting, 603 where there would be too much
unfoldable pub create_scene_item : StudioState → Notes → Caller → Body → Result Effect ℕ
create_scene_item s notes caller body = do
  fields ← needed_fields body
  name ← sought_name (codes "sceneName") fields
  source_name ← sought_name (codes "sourceName") fields
  enabled ← opt_bool true (codes "sceneItemEnabled") fields
  ends ← ends_sought s.graph name source_name
  may ← refused_by (item_cause s.graph ends.holder ends.child
      (item_added ends.holder ends.child (plain_spec enabled) s.graph))
  Ok (item_creation s notes ends enabled)
