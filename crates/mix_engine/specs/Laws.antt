-- What the definitions promise of one another.
use Rattle.std.specs.Prelude.{◌≡◌, ℕ, List, ◌++◌, map, Option}
use Rattle.mix_model.specs.declared.body.Body.{Body}
use Rattle.mix_model.specs.declared.notes.Notes.{Notes}
use Rattle.mix_events.specs.declared.said.Said.TheVariants.{Event as OfEvent}
use Rattle.mix_requests.specs.declared.caller.Caller.{Caller}
use Rattle.mix_requests.specs.declared.request_type.RequestType.{RequestType}
use Rattle.mix_requests.specs.Laws.{IsProperIf}
use Rattle.mix_requests.specs.Ready.{IsReady}
use Rattle.mix_studio.specs.Studios.{StudioModel}
use Rattle.mix_engine.specs.Queues.{queue}
use Rattle.mix_engine.specs.Requests.{line_named, most_named}
use Rattle.mix_engine.specs.Told.{Happened, taken, told_at}

-- the queue of a connection after a history, then what it takes of one entry more, and then what is
-- said there, are what the definition over the history tells it
abbrev pub QueueIsTold : Type 0
QueueIsTold = (number : ℕ) (before : List Happened) (h : Happened) →
    map OfEvent (queue number before ++ taken number h) ++ h.said ≡ told_at number before h

-- each request makes numbers grow by one at most, tells no more events than it may, keeps notes and
-- sources together, and what it tells and answers can be said
abbrev pub RequestsAreProper : Type 0
RequestsAreProper = (m : StudioModel) (notes : Notes) (caller : Caller) (body : Body)
    (request : Option RequestType) → IsReady m notes →
    IsProperIf m.present notes caller (most_named request)
    (line_named m.present notes caller body request)
