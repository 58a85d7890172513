-- The table of the requests on items. A request that isn't built yet has no line.
use Rattle.std.specs.Prelude.{ℕ, Option, Some, None, Result}
use Rattle.mix_model.specs.declared.body.Body.{Body}
use Rattle.mix_model.specs.declared.notes.Notes.{Notes}
use Rattle.mix_model.specs.State.{StudioState}
use Rattle.mix_requests.specs.declared.caller.Caller.{Caller}
use Rattle.mix_requests.specs.declared.request_type.ItemRequest.{ItemRequest}
use Rattle.mix_requests.specs.declared.request_type.ItemRequest.TheVariants as item
use Rattle.mix_requests.specs.Effects.{Effect}
use Rattle.mix_req_items.specs.declared.asking.Part.TheVariants as part
use Rattle.mix_req_items.specs.declared.flags.Flag.TheVariants as flag
use Rattle.mix_req_items.specs.CreateSceneItem.{create_scene_item}
use Rattle.mix_req_items.specs.DuplicateSceneItem.{duplicate_scene_item}
use Rattle.mix_req_items.specs.Flags.{set_flag}
use Rattle.mix_req_items.specs.Parts.{get_part}
use Rattle.mix_req_items.specs.RemoveSceneItem.{remove_scene_item}
use Rattle.mix_req_items.specs.SetSceneItemBlendMode.{set_scene_item_blend_mode}

abbrev pub item_line : StudioState → Notes → Caller → Body → ItemRequest → Option (Result Effect ℕ)
item_line s n c b item.CreateSceneItem = Some (create_scene_item s n c b)
item_line s n c b item.DuplicateSceneItem = Some (duplicate_scene_item s n c b)
item_line s n c b item.GetGroupSceneItemList = None
item_line s n c b item.GetSceneItemBlendMode = Some (get_part part.BlendMode s n c b)
item_line s n c b item.GetSceneItemEnabled = Some (get_part part.Enabled s n c b)
item_line s n c b item.GetSceneItemId = None
item_line s n c b item.GetSceneItemIndex = Some (get_part part.Index s n c b)
item_line s n c b item.GetSceneItemList = None
item_line s n c b item.GetSceneItemLocked = Some (get_part part.Locked s n c b)
item_line s n c b item.GetSceneItemTransform = None
item_line s n c b item.RemoveSceneItem = Some (remove_scene_item s n c b)
item_line s n c b item.SetSceneItemBlendMode = Some (set_scene_item_blend_mode s n c b)
item_line s n c b item.SetSceneItemEnabled = Some (set_flag flag.Enabled s n c b)
item_line s n c b item.SetSceneItemIndex = None
item_line s n c b item.SetSceneItemLocked = Some (set_flag flag.Locked s n c b)
item_line s n c b item.SetSceneItemTransform = None

-- the most events of a request of this type, those of the settling aside
abbrev pub most_events : ItemRequest → ℕ
most_events item.CreateSceneItem = 1
most_events item.DuplicateSceneItem = 1
most_events item.RemoveSceneItem = 1
most_events item.SetSceneItemEnabled = 1
most_events item.SetSceneItemLocked = 1
most_events _ = 0
