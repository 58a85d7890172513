-- BroadcastCustomEvent: everybody who wants it is told an event of a controller's own.
use Rattle.std.specs.Prelude.{ℕ, [], ◌∷◌, codes, None, Result, Ok}
use Rattle.mix_json.specs.Fields.{◌>>=◌, need_kept}
use Rattle.mix_model.specs.declared.body.Body.{Body}
use Rattle.mix_model.specs.declared.event.Event.TheVariants.{CustomEvent}
use Rattle.mix_model.specs.declared.notes.Notes.{Notes}
use Rattle.mix_model.specs.State.{StudioState}
use Rattle.mix_requests.specs.declared.caller.Caller.{Caller}
use Rattle.mix_requests.specs.Effects.{Effect}
use Rattle.mix_requests.specs.Read.{needed_fields}

-- the data of the event: 300 where it is missing, 401 where it is no object, or where a fractional
-- number occurs in it
unfoldable pub broadcast_custom_event : StudioState → Notes → Caller → Body → Result Effect ℕ
broadcast_custom_event s notes caller body = do
  fields ← needed_fields body
  kept ← need_kept (codes "eventData") fields
  Ok (record { answer = None; events = CustomEvent kept ∷ []; studio = s; notes = notes })
