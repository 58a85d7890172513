-- The events of a request as the code has them: each twice.
use Rattle.std.specs.Prelude.{◌≡◌, List, map}
use Rattle.mix_model.specs.declared.event.Event.{Event}
use Rattle.mix_events.specs.declared.twin.Twin.{Twin}

-- the two events of a pair are one
abbrev pub IsTwin : Twin → Type 0
IsTwin twin = twin.told ≡ twin.queued

-- the events of such pairs
abbrev pub queued_in : List Twin → List Event
queued_in twins = map (λ (t : Twin). t.queued) twins
