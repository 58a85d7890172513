-- The events of obs-websocket 5 that the mixer tells: their types, their bits and their fields.
use Rattle.std.specs.Prelude.{ℕ, List, [], ◌∷◌, codes}
use Rattle.mix_base.specs.Json.{Object}
use Rattle.mix_model.specs.declared.event.Event.{Event}
use Rattle.mix_model.specs.declared.event.Event.TheVariants as event
use Rattle.mix_json.specs.Trees.{obj_of}
use Rattle.mix_events.specs.Trees.{Field, number, text, value}
use Rattle.mix_base.specs.declared.json.Json as json
use Rattle.mix_events.specs.SceneEvents.{scene_came, scene_fields, scene_renamed}
use Rattle.mix_events.specs.InputEvents.{input_active, input_created, input_fields, input_muted}
use Rattle.mix_events.specs.InputEvents.{input_offset, input_renamed, input_settings}
use Rattle.mix_events.specs.InputEvents.{input_showing, input_tracks, input_volume}
use Rattle.mix_events.specs.ItemEvents.{item_created, item_enabled, item_locked, item_removed}
use Rattle.mix_events.specs.ItemEvents.{item_transformed, items_reindexed}
use Rattle.mix_events.specs.OtherEvents.{duration_fields, record_fields, studio_fields}
use Rattle.mix_events.specs.OtherEvents.{transition_fields}

-- the text `eventType`
abbrev pub event_type : Event → List ℕ
event_type (event.CustomEvent fields) = codes "CustomEvent"
event_type (event.SceneCreated scene serial) = codes "SceneCreated"
event_type (event.SceneRemoved scene serial) = codes "SceneRemoved"
event_type (event.SceneNameChanged old scene serial) = codes "SceneNameChanged"
event_type (event.CurrentProgramSceneChanged scene serial) = codes "CurrentProgramSceneChanged"
event_type (event.CurrentPreviewSceneChanged scene serial) = codes "CurrentPreviewSceneChanged"
event_type (event.InputCreated kind settings input serial) = codes "InputCreated"
event_type (event.InputRemoved input serial) = codes "InputRemoved"
event_type (event.InputNameChanged old input serial) = codes "InputNameChanged"
event_type (event.InputSettingsChanged settings input serial) = codes "InputSettingsChanged"
event_type (event.InputMuteStateChanged muted input serial) = codes "InputMuteStateChanged"
event_type (event.InputVolumeChanged volume input serial) = codes "InputVolumeChanged"
event_type (event.InputAudioTracksChanged tracks input serial) = codes "InputAudioTracksChanged"
event_type (event.InputAudioSyncOffsetChanged offset input serial) =
    codes "InputAudioSyncOffsetChanged"
event_type (event.CurrentSceneTransitionChanged transition) = codes "CurrentSceneTransitionChanged"
event_type (event.SceneTransitionStarted transition) = codes "SceneTransitionStarted"
event_type (event.SceneTransitionEnded transition) = codes "SceneTransitionEnded"
event_type (event.CurrentSceneTransitionDurationChanged duration) =
    codes "CurrentSceneTransitionDurationChanged"
event_type (event.RecordStateChanged active word) = codes "RecordStateChanged"
event_type (event.SceneItemCreated item index scene serial source source_serial) =
    codes "SceneItemCreated"
event_type (event.SceneItemRemoved item scene serial source source_serial) =
    codes "SceneItemRemoved"
event_type (event.SceneItemListReindexed items scene serial) = codes "SceneItemListReindexed"
event_type (event.SceneItemEnableStateChanged enabled item scene serial) =
    codes "SceneItemEnableStateChanged"
event_type (event.SceneItemLockStateChanged item locked scene serial) =
    codes "SceneItemLockStateChanged"
event_type (event.StudioModeStateChanged enabled) = codes "StudioModeStateChanged"
event_type (event.InputActiveStateChanged input serial active) = codes "InputActiveStateChanged"
event_type (event.InputShowStateChanged input serial showing) = codes "InputShowStateChanged"
event_type (event.SceneItemTransformChanged item place size scene serial) =
    codes "SceneItemTransformChanged"

-- the bits that a client sets to be told of events
-- events that a client asked for
abbrev pub general : ℕ
general = 1

-- scenes and their names, the program and the preview
abbrev pub scenes : ℕ
scenes = 4

-- inputs, their names, settings and sound
abbrev pub inputs : ℕ
inputs = 8

-- transitions
abbrev pub transitions : ℕ
transitions = 16

-- the recording
abbrev pub outputs : ℕ
outputs = 64

-- items of scenes and groups
abbrev pub scene_items : ℕ
scene_items = 128

-- studio mode
abbrev pub ui : ℕ
ui = 1024

-- which inputs are active
abbrev pub active_state : ℕ
active_state = 131072

-- which inputs are showing
abbrev pub show_state : ℕ
show_state = 262144

-- where items stand
abbrev pub transforms : ℕ
transforms = 524288

-- the bit of an event: who has it in the mask is told of the event
abbrev pub event_intent : Event → ℕ
event_intent (event.CustomEvent fields) = general
event_intent (event.SceneCreated scene serial) = scenes
event_intent (event.SceneRemoved scene serial) = scenes
event_intent (event.SceneNameChanged old scene serial) = scenes
event_intent (event.CurrentProgramSceneChanged scene serial) = scenes
event_intent (event.CurrentPreviewSceneChanged scene serial) = scenes
event_intent (event.InputCreated kind settings input serial) = inputs
event_intent (event.InputRemoved input serial) = inputs
event_intent (event.InputNameChanged old input serial) = inputs
event_intent (event.InputSettingsChanged settings input serial) = inputs
event_intent (event.InputMuteStateChanged muted input serial) = inputs
event_intent (event.InputVolumeChanged volume input serial) = inputs
event_intent (event.InputAudioTracksChanged tracks input serial) = inputs
event_intent (event.InputAudioSyncOffsetChanged offset input serial) = inputs
event_intent (event.CurrentSceneTransitionChanged transition) = transitions
event_intent (event.SceneTransitionStarted transition) = transitions
event_intent (event.SceneTransitionEnded transition) = transitions
event_intent (event.CurrentSceneTransitionDurationChanged duration) = transitions
event_intent (event.RecordStateChanged active word) = outputs
event_intent (event.SceneItemCreated item index scene serial source source_serial) = scene_items
event_intent (event.SceneItemRemoved item scene serial source source_serial) = scene_items
event_intent (event.SceneItemListReindexed items scene serial) = scene_items
event_intent (event.SceneItemEnableStateChanged enabled item scene serial) = scene_items
event_intent (event.SceneItemLockStateChanged item locked scene serial) = scene_items
event_intent (event.StudioModeStateChanged enabled) = ui
event_intent (event.InputActiveStateChanged input serial active) = active_state
event_intent (event.InputShowStateChanged input serial showing) = show_state
event_intent (event.SceneItemTransformChanged item place size scene serial) = transforms

-- the fields of the object `eventData`, but for a custom event, whose object is given
abbrev pub event_parts : Event → List Field
event_parts (event.CustomEvent fields) = []
event_parts (event.SceneCreated scene serial) = scene_came scene serial
event_parts (event.SceneRemoved scene serial) = scene_came scene serial
event_parts (event.SceneNameChanged old scene serial) = scene_renamed old scene serial
event_parts (event.CurrentProgramSceneChanged scene serial) = scene_fields scene serial
event_parts (event.CurrentPreviewSceneChanged scene serial) = scene_fields scene serial
event_parts (event.InputCreated kind settings input serial) =
    input_created kind settings input serial
event_parts (event.InputRemoved input serial) = input_fields input serial
event_parts (event.InputNameChanged old input serial) = input_renamed old input serial
event_parts (event.InputSettingsChanged settings input serial) =
    input_settings settings input serial
event_parts (event.InputMuteStateChanged muted input serial) = input_muted muted input serial
event_parts (event.InputVolumeChanged volume input serial) = input_volume volume input serial
event_parts (event.InputAudioTracksChanged tracks input serial) = input_tracks tracks input serial
event_parts (event.InputAudioSyncOffsetChanged offset input serial) =
    input_offset offset input serial
event_parts (event.CurrentSceneTransitionChanged transition) = transition_fields transition
event_parts (event.SceneTransitionStarted transition) = transition_fields transition
event_parts (event.SceneTransitionEnded transition) = transition_fields transition
event_parts (event.CurrentSceneTransitionDurationChanged duration) = duration_fields duration
event_parts (event.RecordStateChanged active word) = record_fields active word
event_parts (event.SceneItemCreated item index scene serial source source_serial) =
    item_created item index scene serial source source_serial
event_parts (event.SceneItemRemoved item scene serial source source_serial) =
    item_removed item scene serial source source_serial
event_parts (event.SceneItemListReindexed items scene serial) = items_reindexed items scene serial
event_parts (event.SceneItemEnableStateChanged enabled item scene serial) =
    item_enabled enabled item scene serial
event_parts (event.SceneItemLockStateChanged item locked scene serial) =
    item_locked item locked scene serial
event_parts (event.StudioModeStateChanged enabled) = studio_fields enabled
event_parts (event.InputActiveStateChanged input serial active) = input_active input serial active
event_parts (event.InputShowStateChanged input serial showing) = input_showing input serial showing
event_parts (event.SceneItemTransformChanged item place size scene serial) =
    item_transformed item place size.0 size.1 scene serial

-- the object `eventData`: of a custom event the given one, else the one of its fields
abbrev pub event_object : Event → Object
event_object (event.CustomEvent fields) = fields
event_object other = obj_of (event_parts other)

-- an event: its object, its bit and its type
unfoldable pub event_fields : Event → List Field
event_fields event =
    value (codes "eventData") (json.Obj (event_object event))
    ∷ number (codes "eventIntent") (event_intent event)
    ∷ text (codes "eventType") (event_type event)
    ∷ []
