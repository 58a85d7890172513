-- What holds of each request on transitions, studio mode, recording and the mixer itself.
use Rattle.mix_model.specs.declared.body.Body.{Body}
use Rattle.mix_model.specs.declared.notes.Notes.{Notes}
use Rattle.mix_requests.specs.declared.caller.Caller.{Caller}
use Rattle.mix_requests.specs.declared.request_type.OutputRequest.{OutputRequest}
use Rattle.mix_requests.specs.Laws.{IsProperIf}
use Rattle.mix_requests.specs.Ready.{IsReady}
use Rattle.mix_studio.specs.Studios.{StudioModel}
use Rattle.mix_req_outputs.specs.Outputs.{most_events, output_line}

-- its numbers grow by one at most, the notes are those of the sources, it tells no more events than it
-- may, and what it tells and answers can be said, the status of a refusal too
abbrev pub OutputsAreProper : Type 0
OutputsAreProper = (m : StudioModel) (notes : Notes) (caller : Caller) (body : Body)
    (request : OutputRequest) → IsReady m notes →
    IsProperIf m.present notes caller (most_events request)
    (output_line m.present notes caller body request)
