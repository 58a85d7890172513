-- What holds of every studio, and of the whole.
use Rattle.std.specs.Prelude.{◌≡◌, ℕ, ◌+◌, ◌&&◌, ◌||◌, nat_lt, nat_le, IsTrue}
use Rattle.std.specs.Prelude.{Bool, true, List, [], ◌∷◌, map, length, take}
use Rattle.std.specs.List.{list_all}
use Rattle.mix_base.specs.Limits.{standard}
use Rattle.mix_base.specs.Rates.{is_rate}
use Rattle.mix_model.specs.declared.notes.Note.{Note}
use Rattle.mix_model.specs.Sets.{has}
use Rattle.mix_model.specs.State.{StudioState, State, Conn, Batch, Hold, Watch, Shown, Rest, Fade}
use Rattle.mix_model.specs.Program.{channel_of}
use Rattle.mix_model.specs.Values.{is_canvas, is_format, is_duration}
use Rattle.mix_model.specs.Shape.{GraphShape, ids_below}

-- a fade hasn't reached its end
abbrev pub is_shown : Shown → Bool
is_shown (Rest x) = true
is_shown (Fade a b t n) = nat_lt t n

-- what holds of every studio
pub record StudioShape (s : StudioState) : Type 0 where
  pub sources : GraphShape s.graph
  -- channel 0 is what the program shows: one scene of the registry, or two different ones in a fade
  pub program : take 1 s.graph.channels ≡ channel_of s.program.shown ∷ []
  pub fade_running : IsTrue (is_shown s.program.shown)
  pub duration : IsTrue (is_duration s.program.duration)
  -- frames in flight are of earlier ticks
  pub frames_past : IsTrue (list_all (λ f. nat_lt f.number s.graph.clock) s.graph.frames)
  -- what pictures, sound and records are made with
  pub canvas : IsTrue (is_canvas s.canvas)
  pub rate : IsTrue (is_rate s.rate)
  pub format : IsTrue (is_format s.canvas s.i420 s.tracks)

-- a note of an open connection
abbrev pub is_noted : List ℕ → Note → Bool
is_noted conns note = has note.conn conns

abbrev pub conn_numbers : {Ask Done : Type 0} → List (Conn Ask Done) → List ℕ
conn_numbers conns = map (λ c. c.number) conns

-- what the sources have of a note: its connection is noted elsewhere
abbrev pub hold_of : Note → Hold
hold_of note = record { id = note.id; serial = note.serial }

abbrev pub watch_of : Note → Watch
watch_of note = record { id = note.id; serial = note.serial }

-- the requests of a batch, those that were run and those that are left
abbrev pub entry_count : {Ask Done : Type 0} → Batch Ask Done → ℕ
entry_count batch = length batch.results + length batch.asks

-- what holds of a connection: few batches, none of too many requests, and few texts wait unless it is
-- cut
abbrev pub is_connection : {Ask Done : Type 0} → Conn Ask Done → Bool
is_connection conn = nat_le (length conn.batches) standard.batches
    && list_all (λ b. nat_le (entry_count b) standard.entries) conn.batches
    && (conn.cut || nat_lt conn.waits standard.waiting)

-- what holds of the whole
pub record StateShape {Ask Done : Type 0} (s : State Ask Done) : Type 0 where
  pub studio : StudioShape s.studio
  -- the numbers of connections
  pub conn_ids : IsTrue (ids_below s.next_conn (conn_numbers s.conns))
  pub few_conns : IsTrue (nat_le (length s.conns) standard.conns)
  pub conns : IsTrue (list_all is_connection s.conns)
  -- the notes have the holds and watches of the sources, each of an open connection
  pub holds_noted : map hold_of s.notes.holds ≡ s.studio.graph.holds
  pub watches_noted : map watch_of s.notes.watches ≡ s.studio.graph.watches
  pub holds_open : IsTrue (list_all (is_noted (conn_numbers s.conns)) s.notes.holds)
  pub watches_open : IsTrue (list_all (is_noted (conn_numbers s.conns)) s.notes.watches)
