-- The events of an action as they come, and which of them the one that acts takes.
use Rattle.std.specs.Prelude.{◌≡◌, ℕ, List, [], map}
use Rattle.std.specs.Option.{option_map_or}
use Rattle.mix_model.specs.declared.event.Event.{Event}
use Rattle.mix_events.specs.declared.twin.Twin.{Twin}
use Rattle.mix_audience.specs.Listeners.{Listener, listener_at, taken_of}

-- an event comes twice: once to wait for the others, and once to be told to the one that acts. The
-- two are one event
abbrev pub IsTwin : Twin → Type 0
IsTwin twin = twin.told ≡ twin.queued

-- the events of such pairs
abbrev pub queued_in : List Twin → List Event
queued_in twins = map (λ t. t.queued) twins

-- the events of these that the connection that acts takes, as everybody does; none where it isn't
-- open
abbrev pub taken_by : ℕ → List Listener → List Event → List Event
taken_by conn listeners events =
    option_map_or (λ l. taken_of l events) (listener_at conn listeners) []
