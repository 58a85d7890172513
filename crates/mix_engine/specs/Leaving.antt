-- A connection that goes or is closed: what it held and watched is let go.
use Rattle.std.specs.Prelude.{ℕ, Bool, List, [], ◌==◌, map, filter, not}
use Rattle.mix_model.specs.declared.notes.Note.{Note}
use Rattle.mix_model.specs.declared.notes.Notes.{Notes}
use Rattle.mix_model.specs.Edits.{let_go}
use Rattle.mix_model.specs.State.{StudioState}
use Rattle.mix_requests.specs.Sources.{edited_alone}
use Rattle.mix_engine.specs.declared.heading.Heading.{Heading}
use Rattle.mix_engine.specs.Connections.{Leaves}
use Rattle.mix_engine.specs.Mixer.{Mixer}
use Rattle.mix_engine.specs.Outcomes.{Outcome, only}

-- a note that this connection made
abbrev pub is_of : ℕ → Note → Bool
is_of conn note = note.conn == conn

-- the ids of its notes
abbrev pub ids_of : ℕ → List Note → List ℕ
ids_of conn notes = map (λ (n : Note). n.id) (filter (is_of conn) notes)

abbrev pub others_of : ℕ → List Note → List Note
others_of conn notes = filter (λ n. not (is_of conn n)) notes

-- the notes without those of a connection
abbrev pub notes_without : ℕ → Notes → Notes
notes_without conn notes = record notes {
  holds = others_of conn notes.holds;
  watches = others_of conn notes.watches;
}

-- the studio without what the connection held and watched
abbrev pub studio_without : ℕ → Notes → StudioState → StudioState
studio_without conn notes s =
    edited_alone (let_go (ids_of conn notes.holds) (ids_of conn notes.watches)) s

-- the connection is there no longer, with what it held and watched and with its batches. Where it is
-- told something it is told the events of this too, as those of every action of its own
abbrev pub goes : Mixer → ℕ → Heading → Outcome
goes s conn heading = record (only s heading []) {
  attendance = Leaves conn;
  studio = studio_without conn s.notes s.studio;
  notes = notes_without conn s.notes;
}
