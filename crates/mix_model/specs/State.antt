-- The state of the mixer, nested by the part that owns each field.
use Rattle.std.specs.Prelude.{ℕ, Bool, List, Option}
use Rattle.mix_base.specs.declared.rate.Rate.{Rate}
use Rattle.mix_model.specs.declared.row.Row.{Row}
use Rattle.mix_model.specs.declared.notes.Notes.{Notes}

-- somebody holds a source: it isn't destroyed meanwhile
pub record Hold : Type 0 where
  pub id : ℕ
  pub serial : ℕ

-- somebody watches a source, and doesn't hold it
pub record Watch : Type 0 where
  pub id : ℕ
  pub serial : ℕ

-- a frame in flight holds the sources that it lists, those that were active when it was taken
pub record Frame : Type 0 where
  pub number : ℕ
  pub serials : List ℕ

-- what a channel names: nothing, one row, or on channel 0 both ends of a fade
abbrev pub Channel : Type 0
Channel = Option ℕ × Option ℕ

-- the sources: rows by rising serial, the registry of scenes and of inputs in order of creation, what
-- else holds and watches them, those that die in the order in which they began to, the clock of
-- pictures, and the numbers that the next of each kind will have
pub record GraphState : Type 0 where
  pub rows : List Row
  pub scenes : List ℕ
  pub inputs : List ℕ
  pub channels : List Channel
  pub preview : Option ℕ
  pub holds : List Hold
  pub watches : List Watch
  pub frames : List Frame
  pub dying : List ℕ
  pub clock : ℕ
  pub next_serial : ℕ
  pub next_hold : ℕ
  pub next_watch : ℕ

-- what the program shows: one scene at rest, or a fade from one scene to another, at t of n frames
pub data Shown : Type 0 where
  Rest : ℕ → Shown
  Fade : ℕ → ℕ → ℕ → ℕ → Shown

-- the program, and how its next change goes: by a fade or by a cut, a fade so many milliseconds long
pub record ProgramState : Type 0 where
  pub shown : Shown
  pub fades : Bool
  pub duration : ℕ

-- how many recordings began, whether one runs and is paused, and what it has: video ticks, audio
-- ticks, and the bytes of all their payloads
pub record Recording : Type 0 where
  pub count : ℕ
  pub running : Bool
  pub paused : Bool
  pub video : ℕ
  pub audio : ℕ
  pub bytes : ℕ

-- the studio: the sources, the program, and what pictures, sound and records are made with
pub record StudioState : Type 0 where
  pub graph : GraphState
  pub program : ProgramState
  pub canvas : ℕ × ℕ
  pub rate : Rate
  pub i420 : Bool
  pub tracks : ℕ
  pub studio_mode : Bool
  pub audio_clock : ℕ
  pub recording : Recording

-- a pending batch: whether it ends at its first failure, whether it counts sleeps in frames, the
-- clock of pictures at which its next request is due, what is left of it, and its results so far
pub record Batch (Ask Done : Type 0) : Type 0 where
  pub id : List ℕ
  pub halts : Bool
  pub by_frame : Bool
  pub due : ℕ
  pub asks : List Ask
  pub results : List Done

-- an open connection: the challenge of its login, its mask, which it has once it is identified, how
-- many texts wait for it, whether it is cut, and its pending batches, the oldest first
pub record Conn (Ask Done : Type 0) : Type 0 where
  pub number : ℕ
  pub challenge : List ℕ
  pub mask : Option ℕ
  pub waits : ℕ
  pub cut : Bool
  pub batches : List (Batch Ask Done)

-- the whole: the studio, what requests have noted, the password and the salt of a login, and the
-- open connections by rising number
pub record State (Ask Done : Type 0) : Type 0 where
  pub studio : StudioState
  pub notes : Notes
  pub secret : Option (List ℕ × List ℕ)
  pub conns : List (Conn Ask Done)
  pub next_conn : ℕ
