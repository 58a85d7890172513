-- What an action comes to, before anybody is told.
use Rattle.std.specs.Prelude.{ℕ, ◌+◌, List, [], ◌∷◌, ◌++◌}
use Rattle.mix_model.specs.declared.notes.Notes.{Notes}
use Rattle.mix_model.specs.declared.event.Event.{Event}
use Rattle.mix_events.specs.declared.said.Said.{Said}
use Rattle.mix_model.specs.State.{StudioState}
use Rattle.mix_engine.specs.declared.heading.Heading.{Heading}
use Rattle.mix_engine.specs.declared.heading.Heading.TheVariants.{Told, NotBuilt}
use Rattle.mix_engine.specs.Connections.{Attendance, Same, Joins, Identifies}
use Rattle.mix_engine.specs.Mixer.{Mixer}
use Rattle.mix_engine.specs.Settling.{settling_events}

-- what an action comes to: what it does to the open connections, what heads its reply with what it says
-- to the one that acts, its own events in their order, and the rest of the state that it leaves, settled
pub record Outcome : Type 0 where
  pub attendance : Attendance
  pub heading : Heading
  pub said : List Said
  pub events : List Event
  pub studio : StudioState
  pub notes : Notes
  pub next_conn : ℕ

-- what is told of an outcome, to everybody who takes it: its own events, and then those of the settling
abbrev pub told_of : Mixer → Outcome → List Event
told_of s o = o.events ++ settling_events s.studio.graph o.studio.graph

-- a reply that changes nothing
abbrev pub only : Mixer → Heading → List Said → Outcome
only s heading said = record {
  attendance = Same;
  heading = heading;
  said = said;
  events = [];
  studio = s.studio;
  notes = s.notes;
  next_conn = s.next_conn;
}

-- an action that isn't built yet: that is its answer, and all is as it was
abbrev pub unbuilt : Mixer → Outcome
unbuilt s = only s NotBuilt []

-- a new connection has the next number, and is told Hello
abbrev pub joins : Mixer → List ℕ → Said → Outcome
joins s challenge hello = record (only s (Told s.next_conn) (hello ∷ [])) {
  attendance = Joins s.next_conn challenge;
  next_conn = s.next_conn + 1;
}

-- a connection is identified, or has a new mask
abbrev pub identifies : Mixer → ℕ → ℕ → Said → Outcome
identifies s conn mask said = record (only s (Told conn) (said ∷ [])) {
  attendance = Identifies conn mask;
}
