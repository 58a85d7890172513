-- GetSceneList: the preview, the program, and all scenes in the order of the registry.
use Rattle.std.specs.Prelude.{ℕ, pos, ◌+◌, List, [], ◌∷◌, ◌++◌, codes, Result, Ok}
use Rattle.mix_base.specs.declared.json.Json.{Json}
use Rattle.mix_base.specs.declared.json.Json.TheVariants as json
use Rattle.mix_json.specs.Trees.{obj_of}
use Rattle.mix_model.specs.declared.body.Body.{Body}
use Rattle.mix_model.specs.declared.notes.Notes.{Notes}
use Rattle.mix_model.specs.State.{GraphState, StudioState}
use Rattle.mix_model.specs.Program.{target_of}
use Rattle.mix_model.specs.Walks.{usable_preview}
use Rattle.mix_requests.specs.declared.caller.Caller.{Caller}
use Rattle.mix_requests.specs.Effects.{Effect, only_asks}
use Rattle.mix_requests.specs.Named.{named, named_or_null}

-- a scene with its place in the list
abbrev pub entry_fields : GraphState → ℕ → ℕ → List (List ℕ × Json)
entry_fields g index x = (codes "sceneIndex", json.Int (pos index))
    ∷ named (codes "sceneName") (codes "sceneUuid") g x

abbrev pub scene_entry : GraphState → ℕ → ℕ → Json
scene_entry g index x = json.Obj (obj_of (entry_fields g index x))

-- scenes with their places, counted from this one on
abbrev pub scene_entries : GraphState → ℕ → List ℕ → List Json
scene_entries g index [] = []
scene_entries g index (x ∷ xs) = scene_entry g index x ∷ scene_entries g (index + 1) xs

-- the preview, and null where none can be used
unfoldable pub preview_fields : GraphState → List (List ℕ × Json)
preview_fields g = named_or_null (codes "currentPreviewSceneName")
    (codes "currentPreviewSceneUuid") g (usable_preview g)

-- the target of the program
unfoldable pub program_fields : GraphState → ℕ → List (List ℕ × Json)
program_fields g x =
    named (codes "currentProgramSceneName") (codes "currentProgramSceneUuid") g x

abbrev pub scenes_fields : GraphState → List (List ℕ × Json)
scenes_fields g = (codes "scenes", json.List (scene_entries g 0 g.scenes)) ∷ []

unfoldable pub scene_list_answer : StudioState → Json
scene_list_answer s = json.Obj (obj_of (preview_fields s.graph
    ++ (program_fields s.graph (target_of s.program.shown) ++ scenes_fields s.graph)))

-- no field is needed
unfoldable pub get_scene_list : StudioState → Notes → Caller → Body → Result Effect ℕ
get_scene_list s notes caller body = Ok (only_asks s notes (scene_list_answer s))
