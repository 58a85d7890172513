-- The fields of the events on inputs.
use Rattle.std.specs.Prelude.{ℕ, ℤ, List, [], ◌∷◌, ◌++◌, Bool, not, ◌==◌, bit_and, codes}
use Rattle.mix_base.specs.declared.json.Json.TheVariants as json
use Rattle.mix_base.specs.Json.{Object}
use Rattle.mix_base.specs.Uuids.{uuid_of}
use Rattle.mix_model.specs.declared.kind.Kind.{Kind}
use Rattle.mix_model.specs.Texts.{kind_id}
use Rattle.mix_events.specs.Trees.{Field, flag, integer, number, object, text, value}

-- an input: its name, and the UUID that its serial gives
unfoldable pub input_fields : List ℕ → ℕ → List Field
input_fields name serial =
    text (codes "inputName") name
    ∷ text (codes "inputUuid") (uuid_of serial)
    ∷ []

-- an input came: its kind, and all keys of its settings
unfoldable pub input_created : Kind → Object → List ℕ → ℕ → List Field
input_created kind settings name serial =
    text (codes "inputKind") (kind_id kind)
    ∷ text (codes "inputName") name
    ∷ value (codes "inputSettings") (json.Obj settings)
    ∷ text (codes "inputUuid") (uuid_of serial)
    ∷ []

-- an input got another name
unfoldable pub input_renamed : List ℕ → List ℕ → ℕ → List Field
input_renamed old name serial = input_fields name serial ++ text (codes "oldInputName") old ∷ []

-- an input got other settings: all its keys
unfoldable pub input_settings : Object → List ℕ → ℕ → List Field
input_settings settings name serial =
    text (codes "inputName") name
    ∷ value (codes "inputSettings") (json.Obj settings)
    ∷ text (codes "inputUuid") (uuid_of serial)
    ∷ []

-- an input was muted, or isn't any more
unfoldable pub input_muted : Bool → List ℕ → ℕ → List Field
input_muted muted name serial = flag (codes "inputMuted") muted ∷ input_fields name serial

-- an input got another volume, in thousandths
unfoldable pub input_volume : ℕ → List ℕ → ℕ → List Field
input_volume volume name serial =
    input_fields name serial ++ number (codes "inputVolumeMilli") volume ∷ []

-- whether the mask has the bit of a track: 1 for the track 1, 2 for the track 2, 4 for the track 3,
-- up to 32 for the track 6
abbrev pub has_track : ℕ → ℕ → Bool
has_track tracks bit = not (bit_and tracks bit == 0)

-- in which of the six tracks an input is heard
unfoldable pub track_fields : ℕ → List Field
track_fields tracks =
    flag (codes "1") (has_track tracks 1)
    ∷ flag (codes "2") (has_track tracks 2)
    ∷ flag (codes "3") (has_track tracks 4)
    ∷ flag (codes "4") (has_track tracks 8)
    ∷ flag (codes "5") (has_track tracks 16)
    ∷ flag (codes "6") (has_track tracks 32)
    ∷ []

-- an input is heard in other tracks
unfoldable pub input_tracks : ℕ → List ℕ → ℕ → List Field
input_tracks tracks name serial =
    object (codes "inputAudioTracks") (track_fields tracks) ∷ input_fields name serial

-- an input is heard later or earlier, in milliseconds
unfoldable pub input_offset : ℤ → List ℕ → ℕ → List Field
input_offset offset name serial =
    integer (codes "inputAudioSyncOffset") offset ∷ input_fields name serial

-- an input became active, or isn't any more
unfoldable pub input_active : List ℕ → ℕ → Bool → List Field
input_active name serial active =
    input_fields name serial ++ flag (codes "videoActive") active ∷ []

-- an input became showing, or isn't any more
unfoldable pub input_showing : List ℕ → ℕ → Bool → List Field
input_showing name serial showing =
    input_fields name serial ++ flag (codes "videoShowing") showing ∷ []
