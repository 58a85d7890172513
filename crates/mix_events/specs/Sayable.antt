-- Of what a text is said: the serials are short enough for a UUID, and no number is fractional.
use Rattle.std.specs.Prelude.{◌≡◌, ℕ, ◌<◌, ◌^◌, Option, Some, None, false, All}
use Rattle.std.specs.Prelude.{IsTrue, is_some}
use Rattle.mix_base.specs.declared.json.Json.{Json}
use Rattle.mix_base.specs.Json.{Object, has_frac, obj_has_frac}
use Rattle.mix_model.specs.declared.ask.Done.{Done}
use Rattle.mix_model.specs.declared.event.Event.{Event}
use Rattle.mix_model.specs.declared.event.Event.TheVariants as event
use Rattle.mix_events.specs.Statuses.{status_name}

-- a serial fits the last twelve hexadecimal digits of a UUID
abbrev pub IsShort : ℕ → Type 0
IsShort serial = serial < 2 ^ 48

-- no fractional number stands in an object
abbrev pub IsWhole : Object → Type 0
IsWhole fields = obj_has_frac fields ≡ false

-- an event whose serials are short and whose numbers are whole
abbrev pub IsSayableEvent : Event → Type 0
IsSayableEvent (event.CustomEvent fields) = IsWhole fields
IsSayableEvent (event.SceneCreated scene serial) = IsShort serial
IsSayableEvent (event.SceneRemoved scene serial) = IsShort serial
IsSayableEvent (event.SceneNameChanged old scene serial) = IsShort serial
IsSayableEvent (event.CurrentProgramSceneChanged scene serial) = IsShort serial
IsSayableEvent (event.CurrentPreviewSceneChanged scene serial) = IsShort serial
IsSayableEvent (event.InputCreated kind settings input serial) = IsWhole settings × IsShort serial
IsSayableEvent (event.InputRemoved input serial) = IsShort serial
IsSayableEvent (event.InputNameChanged old input serial) = IsShort serial
IsSayableEvent (event.InputSettingsChanged settings input serial) =
    IsWhole settings × IsShort serial
IsSayableEvent (event.InputMuteStateChanged muted input serial) = IsShort serial
IsSayableEvent (event.InputVolumeChanged volume input serial) = IsShort serial
IsSayableEvent (event.InputAudioTracksChanged tracks input serial) = IsShort serial
IsSayableEvent (event.InputAudioSyncOffsetChanged offset input serial) = IsShort serial
IsSayableEvent (event.CurrentSceneTransitionChanged transition) = Unit {0}
IsSayableEvent (event.SceneTransitionStarted transition) = Unit {0}
IsSayableEvent (event.SceneTransitionEnded transition) = Unit {0}
IsSayableEvent (event.CurrentSceneTransitionDurationChanged duration) = Unit {0}
IsSayableEvent (event.RecordStateChanged active word) = Unit {0}
IsSayableEvent (event.SceneItemCreated item index scene serial source source_serial) =
    IsShort serial × IsShort source_serial
IsSayableEvent (event.SceneItemRemoved item scene serial source source_serial) =
    IsShort serial × IsShort source_serial
IsSayableEvent (event.SceneItemListReindexed items scene serial) = IsShort serial
IsSayableEvent (event.SceneItemEnableStateChanged enabled item scene serial) = IsShort serial
IsSayableEvent (event.SceneItemLockStateChanged item locked scene serial) = IsShort serial
IsSayableEvent (event.StudioModeStateChanged enabled) = Unit {0}
IsSayableEvent (event.InputActiveStateChanged input serial active) = IsShort serial
IsSayableEvent (event.InputShowStateChanged input serial showing) = IsShort serial
IsSayableEvent (event.SceneItemTransformChanged item place size scene serial) = IsShort serial

-- an answer without a fractional number
abbrev pub IsWholeAnswer : Option Json → Type 0
IsWholeAnswer None = Unit {0}
IsWholeAnswer (Some answer) = has_frac answer ≡ false

-- a result whose status has a name, and in whose answer no number is fractional
abbrev pub IsSayableDone : Done → Type 0
IsSayableDone done = IsTrue (is_some (status_name done.status)) × IsWholeAnswer done.response
