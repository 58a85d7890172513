-- The table of the requests on scenes. A request that isn't built yet has no line.
use Rattle.std.specs.Prelude.{ℕ, Option, Some, None, Result}
use Rattle.mix_model.specs.declared.body.Body.{Body}
use Rattle.mix_model.specs.declared.notes.Notes.{Notes}
use Rattle.mix_model.specs.State.{StudioState}
use Rattle.mix_requests.specs.declared.caller.Caller.{Caller}
use Rattle.mix_requests.specs.declared.request_type.SceneRequest.{SceneRequest}
use Rattle.mix_requests.specs.declared.request_type.SceneRequest.TheVariants as scene
use Rattle.mix_requests.specs.Effects.{Effect}
use Rattle.mix_req_scenes.specs.CreateScene.{create_scene}
use Rattle.mix_req_scenes.specs.GetSceneList.{get_scene_list}
use Rattle.mix_req_scenes.specs.SetCurrentProgramScene.{set_current_program_scene}

abbrev pub scene_line : StudioState → Notes → Caller → Body → SceneRequest
    → Option (Result Effect ℕ)
scene_line s notes caller body scene.CreateScene = Some (create_scene s notes caller body)
scene_line s notes caller body scene.GetCurrentPreviewScene = None
scene_line s notes caller body scene.GetCurrentProgramScene = None
scene_line s notes caller body scene.GetGroupList = None
scene_line s notes caller body scene.GetSceneList = Some (get_scene_list s notes caller body)
scene_line s notes caller body scene.GetSourceActive = None
scene_line s notes caller body scene.RemoveScene = None
scene_line s notes caller body scene.SetCurrentPreviewScene = None
scene_line s notes caller body scene.SetCurrentProgramScene =
    Some (set_current_program_scene s notes caller body)
scene_line s notes caller body scene.SetSceneName = None

-- the most events of a request of this type, those of the settling aside
abbrev pub most_events : SceneRequest → ℕ
most_events scene.CreateScene = 1
most_events scene.SetCurrentProgramScene = 4
most_events _ = 0
