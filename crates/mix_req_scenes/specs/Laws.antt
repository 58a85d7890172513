-- What holds of each request on scenes.
use Rattle.mix_model.specs.declared.body.Body.{Body}
use Rattle.mix_model.specs.declared.notes.Notes.{Notes}
use Rattle.mix_requests.specs.declared.caller.Caller.{Caller}
use Rattle.mix_requests.specs.declared.request_type.SceneRequest.{SceneRequest}
use Rattle.mix_requests.specs.Laws.{IsProperIf}
use Rattle.mix_requests.specs.Ready.{IsReady}
use Rattle.mix_studio.specs.Studios.{StudioModel}
use Rattle.mix_req_scenes.specs.Scenes.{scene_line, most_events}

-- its numbers grow by one at most, the notes are those of the sources, it tells no more events than it
-- may, and what it tells and answers can be said, the status of a refusal too
abbrev pub ScenesAreProper : Type 0
ScenesAreProper = (m : StudioModel) (notes : Notes) (caller : Caller) (body : Body)
    (request : SceneRequest) → IsReady m notes →
    IsProperIf m.present notes caller (most_events request)
    (scene_line m.present notes caller body request)
