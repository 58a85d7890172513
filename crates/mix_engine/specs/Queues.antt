-- What waits for a connection, as a queue that each entry of the history changes.
use Rattle.std.specs.Prelude.{ℕ, List, [], ◌∷◌, ◌++◌, if◌then◌else◌}
use Rattle.mix_model.specs.declared.event.Event.{Event}
use Rattle.mix_engine.specs.Told.{Happened, taken, is_entry_of}

-- an entry of the connection itself empties its queue, since it is told all that waits; any other
-- puts the events at the end that the connection takes
abbrev pub queue_after : ℕ → List Event → Happened → List Event
queue_after number queue h = if is_entry_of number h then [] else queue ++ taken number h

-- the queue after some entries, from the first on
abbrev pub queue_from : ℕ → List Event → List Happened → List Event
queue_from number queue [] = queue
queue_from number queue (h ∷ hs) = queue_from number (queue_after number queue h) hs

-- the queue after a history
abbrev pub queue : ℕ → List Happened → List Event
queue number hs = queue_from number [] hs
