-- The object of each event but a custom one: the keys of its fields rise.
use Rattle.std.proofs.Common.{◌≡◌, true, codes, refl}
use Rattle.mix_base.specs.declared.json.Json as json
use Rattle.mix_model.specs.declared.event.Event.{Event}
use Rattle.mix_model.specs.declared.event.Event.TheVariants as event
use Rattle.mix_json.specs.Trees.{obj_of}
use Rattle.mix_json.specs.Growing.{Grown, after_key, are_rising, close_object, more_field, more_fields, open_object}
use Rattle.mix_json.proofs.TextLemmas.{object_under}
use Rattle.mix_events.specs.Events.{event_parts}
use Rattle.mix_events.specs.SceneEvents.{scene_came, scene_fields, scene_renamed}
use Rattle.mix_events.specs.InputEvents.{input_active, input_created, input_fields, input_muted, input_offset, input_renamed, input_settings, input_showing, input_tracks, input_volume}
use Rattle.mix_events.specs.ItemEvents.{item_created, item_enabled, item_locked, item_removed, item_transformed, items_reindexed, source_fields}
use Rattle.mix_events.specs.OtherEvents.{duration_fields, record_fields, studio_fields, transition_fields}

parts_rise : (happened : Event) → are_rising (event_parts happened) ≡ true
unfolding scene_came scene_fields scene_renamed input_active input_created input_fields input_muted input_offset input_renamed input_settings input_showing input_tracks input_volume item_created item_enabled item_locked item_removed item_transformed items_reindexed source_fields duration_fields record_fields studio_fields transition_fields
parts_rise (event.CustomEvent fields) = refl
parts_rise (event.SceneCreated scene serial) = refl
parts_rise (event.SceneRemoved scene serial) = refl
parts_rise (event.SceneNameChanged old scene serial) = refl
parts_rise (event.CurrentProgramSceneChanged scene serial) = refl
parts_rise (event.CurrentPreviewSceneChanged scene serial) = refl
parts_rise (event.InputCreated kind settings input serial) = refl
parts_rise (event.InputRemoved input serial) = refl
parts_rise (event.InputNameChanged old input serial) = refl
parts_rise (event.InputSettingsChanged settings input serial) = refl
parts_rise (event.InputMuteStateChanged muted input serial) = refl
parts_rise (event.InputVolumeChanged volume input serial) = refl
parts_rise (event.InputAudioTracksChanged tracks input serial) = refl
parts_rise (event.InputAudioSyncOffsetChanged offset input serial) = refl
parts_rise (event.CurrentSceneTransitionChanged transition) = refl
parts_rise (event.SceneTransitionStarted transition) = refl
parts_rise (event.SceneTransitionEnded transition) = refl
parts_rise (event.CurrentSceneTransitionDurationChanged duration) = refl
parts_rise (event.RecordStateChanged active word) = refl
parts_rise (event.SceneItemCreated item index scene serial source source_serial) = refl
parts_rise (event.SceneItemRemoved item scene serial source source_serial) = refl
parts_rise (event.SceneItemListReindexed items scene serial) = refl
parts_rise (event.SceneItemEnableStateChanged enabled item scene serial) = refl
parts_rise (event.SceneItemLockStateChanged item locked scene serial) = refl
parts_rise (event.StudioModeStateChanged enabled) = refl
parts_rise (event.InputActiveStateChanged input serial active) = refl
parts_rise (event.InputShowStateChanged input serial showing) = refl
parts_rise (event.SceneItemTransformChanged item place size scene serial) = refl

pub parts_under : (happened : Event) (before : Grown) →
    close_object (more_fields (event_parts happened) (open_object (after_key (codes "eventData") before)))
    ≡ more_field (codes "eventData") (json.Obj (obj_of (event_parts happened))) before
parts_under happened before = object_under (codes "eventData") (event_parts happened) before (parts_rise happened)
