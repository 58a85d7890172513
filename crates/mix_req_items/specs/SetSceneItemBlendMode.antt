-- SetSceneItemBlendMode: how an item is blended with what lies below it. It is told to nobody.
use Rattle.std.specs.Prelude.{ℕ, [], codes, Result, Ok}
use Rattle.mix_base.specs.Json.{Object}
use Rattle.mix_json.specs.Fields.{◌>>=◌, need_text, or_status}
use Rattle.mix_model.specs.declared.body.Body.{Body}
use Rattle.mix_model.specs.declared.kind.Blend.{Blend}
use Rattle.mix_model.specs.declared.notes.Notes.{Notes}
use Rattle.mix_model.specs.State.{StudioState}
use Rattle.mix_model.specs.Edits.{item_placed}
use Rattle.mix_model.specs.Texts.{blend_named}
use Rattle.mix_requests.specs.declared.caller.Caller.{Caller}
use Rattle.mix_requests.specs.Effects.{Effect}
use Rattle.mix_requests.specs.Read.{needed_fields, sought_name}
use Rattle.mix_req_items.specs.Changes.{changed}
use Rattle.mix_req_items.specs.Finding.{item_named}
use Rattle.mix_req_items.specs.Numbers.{item_id}

-- a blend mode: 300 where it is missing, 401 where it is no text, and 400 where it is none of libobs
unfoldable pub blend_mode : Object → Result Blend ℕ
blend_mode fields =
    need_text (codes "sceneItemBlendMode") fields >>= λ text. or_status 400 (blend_named text)

-- its place stays
unfoldable pub set_scene_item_blend_mode : StudioState → Notes → Caller → Body → Result Effect ℕ
set_scene_item_blend_mode s notes caller body = do
  fields ← needed_fields body
  name ← sought_name (codes "sceneName") fields
  id ← item_id fields
  blend ← blend_mode fields
  found ← item_named s.graph name id
  Ok (changed s notes (item_placed found.holder found.item.id found.item.place blend) [])
