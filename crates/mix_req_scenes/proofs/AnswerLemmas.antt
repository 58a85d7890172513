-- No answer has a fractional number.
use Rattle.std.proofs.Common.{◌≡◌, ℕ, ◌+◌, List, [], ◌∷◌, false, refl, pos, codes}
use Rattle.mix_base.specs.declared.json.Json as json
use Rattle.mix_base.specs.Json.{has_frac, list_has_frac}
use Rattle.mix_base.specs.Uuids.{uuid_of}
use Rattle.mix_json.proofs.TreeLemmas.{list_whole}
use Rattle.mix_model.specs.Program.{target_of}
use Rattle.mix_model.specs.State.{GraphState, StudioState}
use Rattle.mix_model.specs.Walks.{usable_preview}
use Rattle.mix_requests.proofs.ProperLemmas.{AreWhole, both_whole, int_whole, named_whole}
use Rattle.mix_requests.proofs.ProperLemmas.{null_or_whole, object_whole, text_whole}
use Rattle.mix_req_scenes.specs.CreateScene.{scene_answer}
use Rattle.mix_req_scenes.specs.GetSceneList.{entry_fields, preview_fields, program_fields}
use Rattle.mix_req_scenes.specs.GetSceneList.{scene_entries, scene_entry, scene_list_answer}
use Rattle.mix_req_scenes.specs.GetSceneList.{scenes_fields}

entry_whole : (g : GraphState) (index x : ℕ) → has_frac (scene_entry g index x) ≡ false
entry_whole g index x = object_whole (entry_fields g index x)
    (int_whole (pos index), named_whole (codes "sceneName") (codes "sceneUuid") g x)

entries_whole : (g : GraphState) (index : ℕ) (xs : List ℕ) →
    list_has_frac (scene_entries g index xs) ≡ false
entries_whole g index [] = refl
entries_whole g index (x ∷ xs) =
    rw (entry_whole g index x) (entries_whole g (index + 1) xs)

preview_whole : (g : GraphState) → AreWhole (preview_fields g)
unfolding preview_fields
preview_whole g = null_or_whole (codes "currentPreviewSceneName") (codes "currentPreviewSceneUuid")
    g (usable_preview g)

program_whole : (g : GraphState) (x : ℕ) → AreWhole (program_fields g x)
unfolding program_fields
program_whole g x =
    named_whole (codes "currentProgramSceneName") (codes "currentProgramSceneUuid") g x

scenes_whole : (g : GraphState) → AreWhole (scenes_fields g)
scenes_whole g = (list_whole (scene_entries g 0 g.scenes) (entries_whole g 0 g.scenes), tt)

-- the list of scenes
pub scene_list_whole : (s : StudioState) → has_frac (scene_list_answer s) ≡ false
unfolding scene_list_answer
scene_list_whole s = object_whole _
    (both_whole (preview_fields s.graph) _ (preview_whole s.graph)
    (both_whole (program_fields s.graph (target_of s.program.shown)) (scenes_fields s.graph)
    (program_whole s.graph (target_of s.program.shown)) (scenes_whole s.graph)))

-- and what is answered to who made a scene
pub scene_answer_whole : (serial : ℕ) → has_frac (scene_answer serial) ≡ false
unfolding scene_answer
scene_answer_whole serial = object_whole ((codes "sceneUuid", json.Text (uuid_of serial)) ∷ [])
    (text_whole (uuid_of serial), tt)
