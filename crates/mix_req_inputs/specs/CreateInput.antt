-- CreateInput: an input more, last in the registry, with an item on top of a scene.
use Rattle.std.specs.Prelude.{◌≡◌, ℕ, pos, Bool, true, false, List, [], ◌∷◌, codes, length, unwrap_or}
use Rattle.std.specs.Prelude.{Option, Some, Result, Ok, Err, IsTrue, ◌&&◌, option_map}
use Rattle.mix_base.specs.declared.json.Json.{Json}
use Rattle.mix_base.specs.declared.json.Json.TheVariants as json
use Rattle.mix_base.specs.Json.{Object}
use Rattle.mix_base.specs.Uuids.{uuid_of}
use Rattle.mix_json.specs.Fields.{◌>>=◌, refused_if, opt_obj, opt_bool, or_status}
use Rattle.mix_json.specs.Trees.{obj_of}
use Rattle.mix_model.specs.declared.body.Body.{Body}
use Rattle.mix_model.specs.declared.event.Event.{Event}
use Rattle.mix_model.specs.declared.event.Event.TheVariants.{InputCreated, SceneItemCreated}
use Rattle.mix_model.specs.declared.item.ItemSpec.{ItemSpec}
use Rattle.mix_model.specs.declared.kind.Kind.{Kind}
use Rattle.mix_model.specs.declared.kind.Blend.TheVariants.{Normal}
use Rattle.mix_model.specs.declared.notes.Notes.{Notes}
use Rattle.mix_model.specs.declared.settings.Settings.{Settings}
use Rattle.mix_model.specs.declared.settings.Settings.TheVariants.{None as NoSettings}
use Rattle.mix_model.specs.State.{GraphState, StudioState}
use Rattle.mix_model.specs.Items.{asked}
use Rattle.mix_model.specs.Texts.{kind_named}
use Rattle.mix_model.specs.Lookups.{items_of}
use Rattle.mix_model.specs.Rows.{is_input}
use Rattle.mix_model.specs.Sets.{has}
use Rattle.mix_model.specs.Values.{are_settings, is_place, new_place}
use Rattle.mix_model.specs.Holders.{has_name}
use Rattle.mix_model.specs.Edits.{shown_input_created}
use Rattle.mix_model.specs.Causes.{late_cause}
use Rattle.mix_sources.specs.Checked.{checked}
use Rattle.mix_sources.specs.Written.{object_of}
use Rattle.mix_sources.specs.declared.fault.BadSetting.{BadSetting}
use Rattle.mix_requests.specs.declared.caller.Caller.{Caller}
use Rattle.mix_requests.specs.Effects.{Effect}
use Rattle.mix_requests.specs.NewItems.{next_item}
use Rattle.mix_requests.specs.Named.{name_at}
use Rattle.mix_requests.specs.Read.{needed_fields, new_name, sought_name}
use Rattle.mix_requests.specs.Refusals.{refused_by}
use Rattle.mix_requests.specs.Sought.{scene_sought}
use Rattle.mix_requests.specs.Sources.{edited_alone}
use Rattle.mix_req_inputs.specs.declared.wanted.Wanted.{Wanted}
use Rattle.mix_req_inputs.specs.declared.new_input.NewInput.{NewInput}

-- what is asked for. The item of the input is enabled or not
pub record InputWanted : Type 0 where
  pub scene : List ℕ
  pub name : List ℕ
  pub kind : List ℕ
  pub settings : Option Object
  pub enabled : Bool

-- what the code keeps of it, as values
abbrev pub wanted_in : Wanted → InputWanted
wanted_in w = record {
  scene = w.scene.now;
  name = w.name;
  kind = w.kind.now;
  settings = option_map (λ o. o.now) w.settings;
  enabled = w.enabled;
}

-- the fields, in the order in which they are looked at
unfoldable pub input_wanted : Object → Result InputWanted ℕ
input_wanted fields = do
  scene ← sought_name (codes "sceneName") fields
  name ← new_name (codes "inputName") fields
  kind ← sought_name (codes "inputKind") fields
  settings ← opt_obj (codes "inputSettings") fields
  enabled ← opt_bool true (codes "sceneItemEnabled") fields
  Ok (record { scene = scene; name = name; kind = kind; settings = settings; enabled = enabled })

-- 605 where a text is no kind of input
abbrev pub kind_sought : List ℕ → Result Kind ℕ
kind_sought text = or_status 605 (kind_named text)

-- settings that are refused give their status
abbrev pub status_of : Result Settings BadSetting → Result Settings ℕ
status_of (Ok settings) = Ok settings
status_of (Err bad) = Err bad.status

-- the settings of a new input: what is given over the defaults
abbrev pub new_settings : ℕ × ℕ → Kind → Option Object → Result Settings ℕ
new_settings canvas kind given = status_of (checked kind NoSettings (unwrap_or given []) canvas)

-- a new item: on top, enabled or not, unlocked, at its default place
abbrev pub new_spec : Bool → ItemSpec
new_spec enabled = asked enabled false new_place Normal

-- what is refused before the input is made, in the order in which it is looked for: the scene, the kind,
-- a name that stands, the settings
unfoldable pub input_found : StudioState → InputWanted → Result NewInput ℕ
input_found s w = do
  parent ← scene_sought s.graph w.scene
  kind ← kind_sought w.kind
  free ← refused_if (has_name s.graph w.name) 601
  settings ← new_settings s.canvas kind w.settings
  Ok (record {
    parent = parent;
    name = w.name;
    kind = kind;
    settings = settings;
    spec = new_spec w.enabled;
  })

-- an input that nothing of this refuses
pub record IsMakeable (g : GraphState) (input : NewInput) : Type 0 where
  pub parent : has input.parent g.scenes ≡ true
  pub free : has_name g input.name ≡ false
  pub settings : IsTrue (is_input input.kind && are_settings input.kind input.settings)
  pub place : IsTrue (is_place input.spec.place)

-- the input and its item are made
abbrev pub input_added : NewInput → GraphState → GraphState
input_added input = shown_input_created input.name input.kind input.settings input.parent input.spec

-- the answer to who made an input
abbrev pub input_fields : ℕ → ℕ → List (List ℕ × Json)
input_fields serial item = (codes "inputUuid", json.Text (uuid_of serial))
    ∷ ((codes "sceneItemId", json.Int (pos item)) ∷ [])

unfoldable pub input_answer : ℕ → ℕ → Json
input_answer serial item = json.Obj (obj_of (input_fields serial item))

-- the events: the input, and then its item on top of its scene
abbrev pub input_events : GraphState → NewInput → List Event
input_events g input = InputCreated input.kind (object_of input.settings) input.name g.next_serial
    ∷ (SceneItemCreated (next_item g input.parent) (length (items_of g input.parent))
    (name_at g input.parent) input.parent input.name g.next_serial ∷ [])

-- what comes of an input that nothing refuses
abbrev pub input_creation : StudioState → Notes → NewInput → Effect
input_creation s notes input = record {
  answer = Some (input_answer s.graph.next_serial (next_item s.graph input.parent));
  events = input_events s.graph input;
  studio = edited_alone (input_added input) s;
  notes = notes;
}

-- the fields, then what is looked for, and last what would be too much
unfoldable pub create_input : StudioState → Notes → Caller → Body → Result Effect ℕ
create_input s notes caller body = do
  fields ← needed_fields body
  wanted ← input_wanted fields
  input ← input_found s wanted
  may ← refused_by (late_cause (input_added input s.graph))
  Ok (input_creation s notes input)
