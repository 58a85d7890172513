-- What holds of the table of requests, and of the line of each request.
use Rattle.std.specs.Prelude.{◌≡◌, ℕ, Bool, true, false, ◌+◌, ◌≤◌, ◌&&◌, List, [], ◌∷◌, map, All}
use Rattle.std.specs.Prelude.{length, Option, Some, None, Result, Ok, Err, IsTrue, is_some}
use Rattle.std.specs.List.{list_all}
use Rattle.std.specs.Ordering.{match_ordering}
use Rattle.mix_base.specs.Members.{key_order}
use Rattle.mix_events.specs.Sayable.{IsSayableEvent, IsWholeAnswer}
use Rattle.mix_events.specs.Statuses.{status_name}
use Rattle.mix_model.specs.declared.notes.Notes.{Notes}
use Rattle.mix_model.specs.Sets.{has}
use Rattle.mix_model.specs.State.{StudioState}
use Rattle.mix_model.specs.WholeShape.{hold_of, is_noted, watch_of}
use Rattle.mix_requests.specs.declared.caller.Caller.{Caller}
use Rattle.mix_requests.specs.Effects.{Effect}
use Rattle.mix_requests.specs.Ready.{ItemsWithin}
use Rattle.mix_requests.specs.Table.{Entry, request_table, type_of}

-- the types of the table, and the requests that stand beside them
abbrev pub request_types : List (List ℕ)
request_types = map (λ (e : Entry). e.0) request_table

-- each type names the request that stands beside it
abbrev pub TypesName : Type 0
TypesName = map type_of request_types ≡ map (λ (e : Entry). e.1) request_table

-- a type stands before the first of these, in byte order
abbrev pub is_before : List ℕ → List (List ℕ) → Bool
is_before type [] = true
is_before type (next ∷ types) = match_ordering (key_order type next) true false false

-- each type stands before the next one, so that none stands twice
abbrev pub is_rising : List (List ℕ) → Bool
is_rising [] = true
is_rising (type ∷ types) = is_before type types && is_rising types

-- each next number is at most one more, the clocks stand, and records are made as before
pub record Grows (s t : StudioState) : Type 0 where
  pub serial : t.graph.next_serial ≤ s.graph.next_serial + 1
  pub items : (n : ℕ) → ItemsWithin n s.graph → ItemsWithin (n + 1) t.graph
  pub hold : t.graph.next_hold ≤ s.graph.next_hold + 1
  pub watch : t.graph.next_watch ≤ s.graph.next_watch + 1
  pub clock : t.graph.clock ≡ s.graph.clock
  pub audio : t.audio_clock ≡ s.audio_clock
  pub i420 : t.i420 ≡ s.i420
  pub tracks : t.tracks ≡ s.tracks

-- the notes still have the holds and watches of the sources, and what is noted more is noted of who
-- asked: where he and all others that have noted something were open connections, they are still
pub record IsNoted (conn : ℕ) (notes : Notes) (e : Effect) : Type 0 where
  pub holds : map hold_of e.notes.holds ≡ e.studio.graph.holds
  pub watches : map watch_of e.notes.watches ≡ e.studio.graph.watches
  pub holds_open : (conns : List ℕ) → has conn conns ≡ true →
      list_all (is_noted conns) notes.holds ≡ true → list_all (is_noted conns) e.notes.holds ≡ true
  pub watches_open : (conns : List ℕ) → has conn conns ≡ true →
      list_all (is_noted conns) notes.watches ≡ true →
      list_all (is_noted conns) e.notes.watches ≡ true

-- an effect makes numbers grow by one at most, keeps the notes to the sources, tells no more events than
-- so many, and all that it tells and answers can be said
pub record IsProper (s : StudioState) (notes : Notes) (caller : Caller) (most : ℕ) (e : Effect)
    : Type 0 where
  pub grows : Grows s e.studio
  pub noted : IsNoted caller.conn notes e
  pub few : length e.events ≤ most
  pub events : All IsSayableEvent e.events
  pub answer : IsWholeAnswer e.answer

-- a status that has a name can be said
abbrev pub IsNamed : ℕ → Type 0
IsNamed status = IsTrue (is_some (status_name status))

-- a line that isn't refused is such an effect, and one that is has a status with a name
abbrev pub IsProperLine : StudioState → Notes → Caller → ℕ → Result Effect ℕ → Type 0
IsProperLine s notes caller most (Ok effect) = IsProper s notes caller most effect
IsProperLine s notes caller most (Err status) = IsNamed status

-- the same of a request that may not be built
abbrev pub IsProperIf : StudioState → Notes → Caller → ℕ → Option (Result Effect ℕ) → Type 0
IsProperIf s notes caller most None = Unit {0}
IsProperIf s notes caller most (Some line) = IsProperLine s notes caller most line
