-- GetSceneItemBlendMode, GetSceneItemEnabled, GetSceneItemIndex, GetSceneItemLocked: one thing of an
-- item.
use Rattle.std.specs.Prelude.{ℕ, pos, List, [], ◌∷◌, codes, Result, Ok}
use Rattle.mix_base.specs.declared.json.Json.{Json}
use Rattle.mix_base.specs.declared.json.Json.TheVariants as json
use Rattle.mix_json.specs.Fields.{◌>>=◌}
use Rattle.mix_json.specs.Trees.{obj_of}
use Rattle.mix_model.specs.declared.body.Body.{Body}
use Rattle.mix_model.specs.declared.notes.Notes.{Notes}
use Rattle.mix_model.specs.State.{StudioState}
use Rattle.mix_model.specs.Texts.{blend_text}
use Rattle.mix_requests.specs.declared.caller.Caller.{Caller}
use Rattle.mix_requests.specs.Effects.{Effect, only_asks}
use Rattle.mix_req_items.specs.declared.found.Found.{Found}
use Rattle.mix_req_items.specs.declared.asking.Part.{Part}
use Rattle.mix_req_items.specs.declared.asking.Part.TheVariants as part
use Rattle.mix_req_items.specs.Finding.{found_item}

-- the field of an answer; an index counts from 0 at the bottom
abbrev pub part_field : Part → Found → List ℕ × Json
part_field part.BlendMode found = (codes "sceneItemBlendMode", json.Text (blend_text found.item.blend))
part_field part.Enabled found = (codes "sceneItemEnabled", json.Bool found.item.enabled)
part_field part.Index found = (codes "sceneItemIndex", json.Int (pos found.index))
part_field part.Locked found = (codes "sceneItemLocked", json.Bool found.item.locked)

unfoldable pub part_answer : Part → Found → Json
part_answer asked found = json.Obj (obj_of (part_field asked found ∷ []))

unfoldable pub get_part : Part → StudioState → Notes → Caller → Body → Result Effect ℕ
get_part asked s notes caller body = do
  found ← found_item s.graph body
  Ok (only_asks s notes (part_answer asked found))
