-- The fields of the events on transitions, the recording and studio mode.
use Rattle.std.specs.Prelude.{ℕ, List, [], ◌∷◌, Bool, true, false, codes}
use Rattle.mix_base.specs.declared.json.Json.TheVariants as json
use Rattle.mix_model.specs.declared.words.Transition.{Transition}
use Rattle.mix_model.specs.declared.words.Transition.TheVariants.{Cut, Fade}
use Rattle.mix_model.specs.declared.words.RecordWord.{RecordWord}
use Rattle.mix_model.specs.declared.words.RecordWord.TheVariants.{Started, Stopped, Paused}
use Rattle.mix_model.specs.declared.words.RecordWord.TheVariants.{Resumed}
use Rattle.mix_model.specs.Texts.{transition_name}
use Rattle.mix_events.specs.Trees.{Field, flag, number, text, value}

abbrev pub fades : Transition → Bool
fades Cut = false
fades Fade = true

-- a transition was chosen, began or ended
unfoldable pub transition_fields : Transition → List Field
transition_fields transition =
    text (codes "transitionName") (transition_name (fades transition)) ∷ []

-- a duration of transitions was chosen, in milliseconds
unfoldable pub duration_fields : ℕ → List Field
duration_fields duration = number (codes "transitionDuration") duration ∷ []

-- what happened to the recording, as obs-websocket 5 names it
unfoldable pub output_state : RecordWord → List ℕ
output_state Started = codes "OBS_WEBSOCKET_OUTPUT_STARTED"
output_state Stopped = codes "OBS_WEBSOCKET_OUTPUT_STOPPED"
output_state Paused = codes "OBS_WEBSOCKET_OUTPUT_PAUSED"
output_state Resumed = codes "OBS_WEBSOCKET_OUTPUT_RESUMED"

-- something happened to the recording: whether one runs after it, and no path
unfoldable pub record_fields : Bool → RecordWord → List Field
record_fields active word =
    flag (codes "outputActive") active
    ∷ value (codes "outputPath") json.Null
    ∷ text (codes "outputState") (output_state word)
    ∷ []

-- studio mode was switched on or off
unfoldable pub studio_fields : Bool → List Field
studio_fields enabled = flag (codes "studioModeEnabled") enabled ∷ []
