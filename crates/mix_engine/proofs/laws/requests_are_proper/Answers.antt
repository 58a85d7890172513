use Rattle.std.proofs.Common.{Some, None, Option, refl}
use Rattle.mix_events.specs.Statuses.{status_name}
use Rattle.mix_model.specs.declared.body.Body.{Body}
use Rattle.mix_model.specs.declared.notes.Notes.{Notes}
use Rattle.mix_requests.specs.declared.caller.Caller.{Caller}
use Rattle.mix_requests.specs.declared.request_type.RequestType.{RequestType}
use Rattle.mix_requests.specs.declared.request_type.RequestType.TheVariants as type
use Rattle.mix_requests.specs.Laws.{IsProperIf}
use Rattle.mix_requests.specs.Ready.{IsReady}
use Rattle.mix_studio.specs.Studios.{StudioModel}
use Rattle.mix_req_scenes.specs.Laws.{ScenesAreProper}
use Rattle.mix_req_items.specs.Laws.{ItemsAreProper}
use Rattle.mix_req_inputs.specs.Laws.{InputsAreProper}
use Rattle.mix_req_outputs.specs.Laws.{OutputsAreProper}
use Rattle.mix_engine.specs.Requests.{line_named, most_named}
use Rattle.mix_engine.proofs.laws.requests_are_proper.Goals as goal

-- each request is proper in its own crate, and the statuses 203 and 204 have names
each : ScenesAreProper → ItemsAreProper → InputsAreProper → OutputsAreProper → (m : StudioModel)
    (notes : Notes) (caller : Caller) (body : Body) (request : Option RequestType) →
    IsReady m notes → IsProperIf m.present notes caller (most_named request)
    (line_named m.present notes caller body request)
unfolding status_name
each scenes items inputs outputs m notes caller body None ready = refl
each scenes items inputs outputs m notes caller body (Some (type.Scene request)) ready =
    scenes m notes caller body request ready
each scenes items inputs outputs m notes caller body (Some (type.Item request)) ready =
    items m notes caller body request ready
each scenes items inputs outputs m notes caller body (Some (type.Input request)) ready =
    inputs m notes caller body request ready
each scenes items inputs outputs m notes caller body (Some (type.Output request)) ready =
    outputs m notes caller body request ready
each scenes items inputs outputs m notes caller body (Some type.Unknown) ready = refl

pub returns : goal.returns
returns c = record {
  proper = each c.scene_requests_are_proper.ensures.proper c.item_requests_are_proper.ensures.proper
      c.input_requests_are_proper.ensures.proper c.output_requests_are_proper.ensures.proper;
}
