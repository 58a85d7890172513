-- What holds of each request on inputs.
use Rattle.mix_model.specs.declared.body.Body.{Body}
use Rattle.mix_model.specs.declared.notes.Notes.{Notes}
use Rattle.mix_requests.specs.declared.caller.Caller.{Caller}
use Rattle.mix_requests.specs.declared.request_type.InputRequest.{InputRequest}
use Rattle.mix_requests.specs.Laws.{IsProperIf}
use Rattle.mix_requests.specs.Ready.{IsReady}
use Rattle.mix_studio.specs.Studios.{StudioModel}
use Rattle.mix_req_inputs.specs.Inputs.{most_events, input_line}

-- its numbers grow by one at most, the notes stay those of the sources, it tells no more events than it
-- may, and what it tells and answers can be said, as can the status that refuses it
abbrev pub InputsAreProper : Type 0
InputsAreProper = (m : StudioModel) (notes : Notes) (caller : Caller) (body : Body)
    (request : InputRequest) → IsReady m notes →
    IsProperIf m.present notes caller (most_events request)
    (input_line m.present notes caller body request)
