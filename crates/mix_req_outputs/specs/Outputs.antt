-- The table of the requests on transitions, studio mode, recording and the mixer itself. A request that
-- isn't built yet has no line.
use Rattle.std.specs.Prelude.{ℕ, Option, Some, None, Result, Err}
use Rattle.mix_model.specs.declared.body.Body.{Body}
use Rattle.mix_model.specs.declared.notes.Notes.{Notes}
use Rattle.mix_model.specs.State.{StudioState}
use Rattle.mix_requests.specs.declared.caller.Caller.{Caller}
use Rattle.mix_requests.specs.declared.caller.Mode.{Mode}
use Rattle.mix_requests.specs.declared.caller.Mode.TheVariants.{Single, Realtime, Frame}
use Rattle.mix_requests.specs.declared.request_type.OutputRequest.{OutputRequest}
use Rattle.mix_requests.specs.declared.request_type.OutputRequest.TheVariants as output
use Rattle.mix_requests.specs.Effects.{Effect}
use Rattle.mix_req_outputs.specs.BroadcastCustomEvent.{broadcast_custom_event}

-- Sleep is of batches alone: 206 outside one. In a batch it isn't built yet
abbrev pub sleep_line : Mode → Option (Result Effect ℕ)
sleep_line Single = Some (Err 206)
sleep_line Realtime = None
sleep_line Frame = None

abbrev pub output_line : StudioState → Notes → Caller → Body → OutputRequest
    → Option (Result Effect ℕ)
output_line s notes caller body output.BroadcastCustomEvent =
    Some (broadcast_custom_event s notes caller body)
output_line s notes caller body output.Sleep = sleep_line caller.mode
output_line s notes caller body output.CallVendorRequest = None
output_line s notes caller body output.GetCurrentSceneTransition = None
output_line s notes caller body output.GetRecordStatus = None
output_line s notes caller body output.GetSceneTransitionList = None
output_line s notes caller body output.GetStudioModeEnabled = None
output_line s notes caller body output.GetVersion = None
output_line s notes caller body output.PauseRecord = None
output_line s notes caller body output.ResumeRecord = None
output_line s notes caller body output.SetCurrentSceneTransition = None
output_line s notes caller body output.SetCurrentSceneTransitionDuration = None
output_line s notes caller body output.SetStudioModeEnabled = None
output_line s notes caller body output.StartRecord = None
output_line s notes caller body output.StopRecord = None
output_line s notes caller body output.ToggleRecord = None
output_line s notes caller body output.TriggerStudioModeTransition = None

-- the most events of a request of this type, those of the settling aside
abbrev pub most_events : OutputRequest → ℕ
most_events output.BroadcastCustomEvent = 1
most_events _ = 0
