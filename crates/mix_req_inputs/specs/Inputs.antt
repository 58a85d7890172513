-- The table of the requests on inputs. A request that isn't built yet has no line.
use Rattle.std.specs.Prelude.{ℕ, Option, Some, None, Result}
use Rattle.mix_model.specs.declared.body.Body.{Body}
use Rattle.mix_model.specs.declared.notes.Notes.{Notes}
use Rattle.mix_model.specs.State.{StudioState}
use Rattle.mix_requests.specs.declared.caller.Caller.{Caller}
use Rattle.mix_requests.specs.declared.request_type.InputRequest.{InputRequest}
use Rattle.mix_requests.specs.declared.request_type.InputRequest.TheVariants as input
use Rattle.mix_requests.specs.Effects.{Effect}
use Rattle.mix_req_inputs.specs.CreateInput.{create_input}

abbrev pub input_line : StudioState → Notes → Caller → Body → InputRequest
    → Option (Result Effect ℕ)
input_line s notes caller body input.CreateInput = Some (create_input s notes caller body)
input_line s notes caller body input.GetInputAudioSyncOffset = None
input_line s notes caller body input.GetInputAudioTracks = None
input_line s notes caller body input.GetInputKindList = None
input_line s notes caller body input.GetInputList = None
input_line s notes caller body input.GetInputMute = None
input_line s notes caller body input.GetInputSettings = None
input_line s notes caller body input.GetInputVolume = None
input_line s notes caller body input.RemoveInput = None
input_line s notes caller body input.SetInputAudioSyncOffset = None
input_line s notes caller body input.SetInputAudioTracks = None
input_line s notes caller body input.SetInputMute = None
input_line s notes caller body input.SetInputName = None
input_line s notes caller body input.SetInputSettings = None
input_line s notes caller body input.SetInputVolume = None
input_line s notes caller body input.ToggleInputMute = None

-- the most events of a request of this type, those of the settling aside
abbrev pub most_events : InputRequest → ℕ
most_events input.CreateInput = 2
most_events _ = 0
