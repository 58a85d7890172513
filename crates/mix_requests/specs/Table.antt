-- Which request a type names.
use Rattle.std.specs.Prelude.{ℕ, List, [], ◌∷◌, codes, bytes_eq, find}
use Rattle.std.specs.Option.{option_map_or}
use Rattle.mix_requests.specs.declared.request_type.RequestType.{RequestType}
use Rattle.mix_requests.specs.declared.request_type.RequestType.TheVariants.{Scene, Item, Input}
use Rattle.mix_requests.specs.declared.request_type.RequestType.TheVariants.{Output, Unknown}
use Rattle.mix_requests.specs.declared.request_type.SceneRequest.TheVariants as scene
use Rattle.mix_requests.specs.declared.request_type.ItemRequest.TheVariants as item
use Rattle.mix_requests.specs.declared.request_type.InputRequest.TheVariants as input
use Rattle.mix_requests.specs.declared.request_type.OutputRequest.TheVariants as output

-- a type as obs-websocket 5 writes it, and the request that it names
abbrev pub Entry : Type 0
Entry = List ℕ × RequestType

-- all requests that the mixer is to know, by their types in byte order
abbrev pub request_table : List Entry
request_table = (codes "BroadcastCustomEvent", Output output.BroadcastCustomEvent)
    ∷ ((codes "CallVendorRequest", Output output.CallVendorRequest)
    ∷ ((codes "CreateInput", Input input.CreateInput)
    ∷ ((codes "CreateScene", Scene scene.CreateScene)
    ∷ ((codes "CreateSceneItem", Item item.CreateSceneItem)
    ∷ ((codes "DuplicateSceneItem", Item item.DuplicateSceneItem)
    ∷ ((codes "GetCurrentPreviewScene", Scene scene.GetCurrentPreviewScene)
    ∷ ((codes "GetCurrentProgramScene", Scene scene.GetCurrentProgramScene)
    ∷ ((codes "GetCurrentSceneTransition", Output output.GetCurrentSceneTransition)
    ∷ ((codes "GetGroupList", Scene scene.GetGroupList)
    ∷ ((codes "GetGroupSceneItemList", Item item.GetGroupSceneItemList)
    ∷ ((codes "GetInputAudioSyncOffset", Input input.GetInputAudioSyncOffset)
    ∷ ((codes "GetInputAudioTracks", Input input.GetInputAudioTracks)
    ∷ ((codes "GetInputKindList", Input input.GetInputKindList)
    ∷ ((codes "GetInputList", Input input.GetInputList)
    ∷ ((codes "GetInputMute", Input input.GetInputMute)
    ∷ ((codes "GetInputSettings", Input input.GetInputSettings)
    ∷ ((codes "GetInputVolume", Input input.GetInputVolume)
    ∷ ((codes "GetRecordStatus", Output output.GetRecordStatus)
    ∷ ((codes "GetSceneItemBlendMode", Item item.GetSceneItemBlendMode)
    ∷ ((codes "GetSceneItemEnabled", Item item.GetSceneItemEnabled)
    ∷ ((codes "GetSceneItemId", Item item.GetSceneItemId)
    ∷ ((codes "GetSceneItemIndex", Item item.GetSceneItemIndex)
    ∷ ((codes "GetSceneItemList", Item item.GetSceneItemList)
    ∷ ((codes "GetSceneItemLocked", Item item.GetSceneItemLocked)
    ∷ ((codes "GetSceneItemTransform", Item item.GetSceneItemTransform)
    ∷ ((codes "GetSceneList", Scene scene.GetSceneList)
    ∷ ((codes "GetSceneTransitionList", Output output.GetSceneTransitionList)
    ∷ ((codes "GetSourceActive", Scene scene.GetSourceActive)
    ∷ ((codes "GetStudioModeEnabled", Output output.GetStudioModeEnabled)
    ∷ ((codes "GetVersion", Output output.GetVersion)
    ∷ ((codes "PauseRecord", Output output.PauseRecord)
    ∷ ((codes "RemoveInput", Input input.RemoveInput)
    ∷ ((codes "RemoveScene", Scene scene.RemoveScene)
    ∷ ((codes "RemoveSceneItem", Item item.RemoveSceneItem)
    ∷ ((codes "ResumeRecord", Output output.ResumeRecord)
    ∷ ((codes "SetCurrentPreviewScene", Scene scene.SetCurrentPreviewScene)
    ∷ ((codes "SetCurrentProgramScene", Scene scene.SetCurrentProgramScene)
    ∷ ((codes "SetCurrentSceneTransition", Output output.SetCurrentSceneTransition)
    ∷ ((codes "SetCurrentSceneTransitionDuration", Output output.SetCurrentSceneTransitionDuration)
    ∷ ((codes "SetInputAudioSyncOffset", Input input.SetInputAudioSyncOffset)
    ∷ ((codes "SetInputAudioTracks", Input input.SetInputAudioTracks)
    ∷ ((codes "SetInputMute", Input input.SetInputMute)
    ∷ ((codes "SetInputName", Input input.SetInputName)
    ∷ ((codes "SetInputSettings", Input input.SetInputSettings)
    ∷ ((codes "SetInputVolume", Input input.SetInputVolume)
    ∷ ((codes "SetSceneItemBlendMode", Item item.SetSceneItemBlendMode)
    ∷ ((codes "SetSceneItemEnabled", Item item.SetSceneItemEnabled)
    ∷ ((codes "SetSceneItemIndex", Item item.SetSceneItemIndex)
    ∷ ((codes "SetSceneItemLocked", Item item.SetSceneItemLocked)
    ∷ ((codes "SetSceneItemTransform", Item item.SetSceneItemTransform)
    ∷ ((codes "SetSceneName", Scene scene.SetSceneName)
    ∷ ((codes "SetStudioModeEnabled", Output output.SetStudioModeEnabled)
    ∷ ((codes "Sleep", Output output.Sleep)
    ∷ ((codes "StartRecord", Output output.StartRecord)
    ∷ ((codes "StopRecord", Output output.StopRecord)
    ∷ ((codes "ToggleInputMute", Input input.ToggleInputMute)
    ∷ ((codes "ToggleRecord", Output output.ToggleRecord)
    ∷ ((codes "TriggerStudioModeTransition", Output output.TriggerStudioModeTransition)
    ∷ []))))))))))))))))))))))))))))))))))))))))))))))))))))))))))

-- the request of a type among these entries; unknown where none has it
abbrev pub request_among : List Entry → List ℕ → RequestType
request_among entries type = option_map_or (λ (e : Entry). e.1)
    (find (λ (e : Entry). bytes_eq e.0 type) entries) Unknown

-- the request of a type; unknown where the table doesn't have it
unfoldable pub type_of : List ℕ → RequestType
type_of type = request_among request_table type
