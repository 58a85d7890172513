-- What holds of the line of each request on transitions, studio mode, recording and the mixer itself.
use Rattle.std.proofs.Common.{◌≡◌, [], ◌∷◌, codes, false, refl, arith, None}
use Rattle.std.proofs.lemmas.List.Elements.{All-cons, All-nil}
use Rattle.mix_base.specs.Json.{Object, obj_has_frac}
use Rattle.mix_events.specs.Sayable.{IsSayableEvent}
use Rattle.mix_events.specs.Statuses.{status_name}
use Rattle.mix_json.specs.Fields.{need_kept}
use Rattle.mix_model.specs.declared.body.Body.{Body}
use Rattle.mix_model.specs.declared.event.Event.TheVariants.{CustomEvent}
use Rattle.mix_model.specs.declared.notes.Notes.{Notes}
use Rattle.mix_requests.specs.declared.caller.Caller.{Caller}
use Rattle.mix_requests.specs.declared.caller.Mode.{Mode}
use Rattle.mix_requests.specs.declared.caller.Mode.TheVariants.{Single, Realtime, Frame}
use Rattle.mix_requests.specs.declared.request_type.OutputRequest.TheVariants as output
use Rattle.mix_requests.specs.Laws.{IsProper, IsProperIf}
use Rattle.mix_requests.specs.Read.{needed_fields}
use Rattle.mix_requests.specs.Ready.{IsReady}
use Rattle.mix_requests.proofs.ProperLemmas.{Gives, after, kept_whole, line_proper, needed_named}
use Rattle.mix_requests.proofs.ProperLemmas.{nothing_noted, stays_grow}
use Rattle.mix_studio.specs.Studios.{StudioModel}
use Rattle.mix_req_outputs.specs.BroadcastCustomEvent.{broadcast_custom_event}
use Rattle.mix_req_outputs.specs.Laws.{OutputsAreProper}
use Rattle.mix_req_outputs.specs.Outputs.{sleep_line}

module _ (m : StudioModel) (notes : Notes) (caller : Caller) (ready : IsReady m notes) where
  -- BroadcastCustomEvent
  told_proper : (kept : Object) → obj_has_frac kept ≡ false →
      IsProper m.present notes caller 1 (record {
        answer = None;
        events = CustomEvent kept ∷ [];
        studio = m.present;
        notes = notes;
      })
  told_proper kept whole = record {
    grows = stays_grow m.present;
    noted = nothing_noted caller.conn m notes ready _ refl refl refl;
    few = omega arith;
    events = All-cons IsSayableEvent (CustomEvent kept) [] whole (All-nil IsSayableEvent);
    answer = tt;
  }

  broadcast_proper : (body : Body) → Gives (IsProper m.present notes caller 1)
      (broadcast_custom_event m.present notes caller body)
  unfolding broadcast_custom_event
  broadcast_proper body =
      after (needed_fields body) _ (needed_named body) (λ fields needed.
      after (need_kept (codes "eventData") fields) _ (kept_whole (codes "eventData") fields)
      (λ kept whole. record { gives = told_proper kept whole }))

  -- Sleep
  sleep_proper : (mode : Mode) → IsProperIf m.present notes caller 0 (sleep_line mode)
  unfolding status_name
  sleep_proper Single = refl
  sleep_proper Realtime = tt
  sleep_proper Frame = tt

pub outputs_are_proper : OutputsAreProper
outputs_are_proper m notes caller body output.BroadcastCustomEvent ready =
    line_proper m.present notes caller 1 _ (broadcast_proper m notes caller ready body)
outputs_are_proper m notes caller body output.Sleep ready =
    sleep_proper m notes caller ready caller.mode
outputs_are_proper m notes caller body output.CallVendorRequest ready = tt
outputs_are_proper m notes caller body output.GetCurrentSceneTransition ready = tt
outputs_are_proper m notes caller body output.GetRecordStatus ready = tt
outputs_are_proper m notes caller body output.GetSceneTransitionList ready = tt
outputs_are_proper m notes caller body output.GetStudioModeEnabled ready = tt
outputs_are_proper m notes caller body output.GetVersion ready = tt
outputs_are_proper m notes caller body output.PauseRecord ready = tt
outputs_are_proper m notes caller body output.ResumeRecord ready = tt
outputs_are_proper m notes caller body output.SetCurrentSceneTransition ready = tt
outputs_are_proper m notes caller body output.SetCurrentSceneTransitionDuration ready = tt
outputs_are_proper m notes caller body output.SetStudioModeEnabled ready = tt
outputs_are_proper m notes caller body output.StartRecord ready = tt
outputs_are_proper m notes caller body output.StopRecord ready = tt
outputs_are_proper m notes caller body output.ToggleRecord ready = tt
outputs_are_proper m notes caller body output.TriggerStudioModeTransition ready = tt
