-- No number of a mixer goes on by more than one in an action, and records are made as before.
use Rattle.std.proofs.Common.{◌≡◌, ℕ, ◌+◌, ◌≤◌, get_or, map}
use Rattle.std.proofs.Common.{Option, Some, None, Result, Ok, Err, refl, arith}
use Rattle.std.specs.Option.{option_map}
use Rattle.std.proofs.lemmas.List.Elements.{All-map}
use Rattle.mix_model.specs.declared.action.Action.{Action}
use Rattle.mix_model.specs.declared.ask.Ask.{Ask}
use Rattle.mix_model.specs.declared.row.Row.{Row}
use Rattle.mix_model.specs.Edits.{channel_set, clock_set, frame_held, frame_released, let_go}
use Rattle.mix_model.specs.Marks.{marks_of}
use Rattle.mix_model.specs.Settle.{settle, with_since}
use Rattle.mix_model.specs.State.{GraphState, StudioState}
use Rattle.mix_model.specs.Studio.{frame_ended, picture_taken, studio_settled}
use Rattle.mix_model.specs.WholeShape.{StateShape}
use Rattle.mix_requests.specs.Effects.{Effect}
use Rattle.mix_requests.specs.Laws.{Grows, IsProperIf}
use Rattle.mix_requests.specs.Ready.{IsReady, ItemsWithin}
use Rattle.mix_requests.specs.Table.{type_of}
use Rattle.mix_requests.proofs.ProperLemmas.{stays_grow}
use Rattle.mix_engine.specs.Laws.{RequestsAreProper}
use Rattle.mix_engine.specs.Leaving.{ids_of, studio_without}
use Rattle.mix_engine.specs.Mixer.{Mixer}
use Rattle.mix_engine.specs.Numbers.{NumbersWithin}
use Rattle.mix_engine.specs.Requests.{alone, answers_by, line_asked, most_named}
use Rattle.mix_engine.specs.Step.{gives_back, outcome, takes_frame}
use Rattle.mix_engine.proofs.Actors.{of_outcome}

-- what is within a number is within every larger one
pub items_within : (g : GraphState) (low high : ℕ) → low ≤ high → ItemsWithin low g →
    ItemsWithin high g
items_within g low high more within k d here =
    let least : (get_or g.rows k d).next_item ≤ low = within k d here in omega arith

-- what an action makes of the studio and of the next number of a connection
pub record GoesOn (s : Mixer) (t : StudioState) (next : ℕ) : Type 0 where
  pub conns : next ≤ s.next_conn + 1
  pub serials : t.graph.next_serial ≤ s.studio.graph.next_serial + 1
  pub items : (n : ℕ) → ItemsWithin n s.studio.graph → ItemsWithin (n + 1) t.graph
  pub holds : t.graph.next_hold ≤ s.studio.graph.next_hold + 1
  pub watches : t.graph.next_watch ≤ s.studio.graph.next_watch + 1
  pub clock : t.graph.clock ≤ s.studio.graph.clock + 1
  pub audio : t.audio_clock ≤ s.studio.audio_clock + 1
  pub i420 : t.i420 ≡ s.studio.i420
  pub tracks : t.tracks ≡ s.studio.tracks

-- a studio that a request leaves
grown : (s : Mixer) (t : StudioState) (next : ℕ) → next ≤ s.next_conn + 1 → Grows s.studio t →
    GoesOn s t next
grown s t next more grows = record {
  conns = more;
  serials = grows.serial;
  items = grows.items;
  holds = grows.hold;
  watches = grows.watch;
  clock = omega (arith, grows.clock);
  audio = omega (arith, grows.audio);
  i420 = grows.i420;
  tracks = grows.tracks;
}

-- one that is as it was
same : (s : Mixer) → GoesOn s s.studio s.next_conn
same s = grown s s.studio s.next_conn (omega arith) (stays_grow s.studio)

-- one that is settled over the same rows
settled : (s : Mixer) (t : StudioState) (new : GraphState) → new.rows ≡ s.studio.graph.rows →
    t.graph.rows ≡ map (with_since s.studio.graph new) new.rows →
    t.graph.next_serial ≡ s.studio.graph.next_serial →
    t.graph.next_hold ≡ s.studio.graph.next_hold →
    t.graph.next_watch ≡ s.studio.graph.next_watch → t.graph.clock ≤ s.studio.graph.clock + 1 →
    t.audio_clock ≡ s.studio.audio_clock → t.i420 ≡ s.studio.i420 → t.tracks ≡ s.studio.tracks →
    GoesOn s t s.next_conn
unfolding with_since
settled s t new same_rows rows serials holds watches clock audio i420 tracks = record {
  conns = omega arith;
  serials = omega arith;
  items = λ n within. rw rows (All-map (λ (r : Row). r.next_item ≤ n + 1)
      (with_since s.studio.graph new) new.rows
      (rw same_rows (items_within s.studio.graph n (n + 1) (omega arith) within)));
  holds = omega arith;
  watches = omega arith;
  clock = clock;
  audio = omega arith;
  i420 = i420;
  tracks = tracks;
}

no_more : (a b : ℕ) → a ≡ b → a ≤ b + 1
no_more a b is = omega arith

-- one of which a connection lets go
let_goes_on : (s : Mixer) (conn : ℕ) → GoesOn s (studio_without conn s.notes s.studio) s.next_conn
unfolding studio_settled settle let_go
let_goes_on s conn = settled s (studio_without conn s.notes s.studio)
    (let_go (ids_of conn s.notes.holds) (ids_of conn s.notes.watches) s.studio.graph)
    refl refl refl refl refl (no_more _ s.studio.graph.clock refl) refl refl refl

-- one of which a frame is taken
taken_goes_on : (s : Mixer) → GoesOn s (takes_frame s).studio s.next_conn
unfolding studio_settled settle picture_taken frame_held clock_set channel_set
taken_goes_on s =
    let clock : (takes_frame s).studio.graph.clock ≡ s.studio.graph.clock + 1 = refl in
    settled s (takes_frame s).studio (picture_taken s.studio).graph refl refl refl refl refl
    (omega arith) refl refl refl

-- and one to which a frame is given back
given_goes_on : (s : Mixer) (number : ℕ) → GoesOn s (gives_back s number).studio s.next_conn
unfolding studio_settled settle frame_ended frame_released
given_goes_on s number = settled s (gives_back s number).studio
    (frame_ended number s.studio).graph refl refl refl refl refl
    (no_more _ s.studio.graph.clock refl) refl refl refl

-- an action can begin
pub ready_of : (s : Mixer) → StateShape s → NumbersWithin 4294967294 s →
    IsReady (record { begun = marks_of s.studio.graph; present = s.studio }) s.notes
ready_of s shape numbers = record {
  begun = refl;
  shape = shape.studio;
  serial = omega (arith, numbers.serials);
  items = numbers.items;
  hold = omega (arith, numbers.holds);
  watch = omega (arith, numbers.watches);
  holds = shape.holds_noted;
  watches = shape.watches_noted;
}

-- every action goes on so
pub outcome_goes_on : RequestsAreProper → (s : Mixer) → StateShape s →
    NumbersWithin 4294967294 s → (action : Action) →
    GoesOn s (outcome s action).studio (outcome s action).next_conn
outcome_goes_on proper s shape numbers = of_outcome (λ o. GoesOn s o.studio o.next_conn) s (record {
  stands = λ reply said. same s;
  comes = λ challenge said.
      grown s s.studio (s.next_conn + 1) (omega arith) (stays_grow s.studio);
  enters = λ conn mask said. same s;
  leaves = let_goes_on s;
  closed = λ conn code. let_goes_on s conn;
  asks = λ conn ask. by_line conn ask (line_asked s.studio s.notes (alone conn) ask)
      (proper (record { begun = marks_of s.studio.graph; present = s.studio }) s.notes (alone conn)
      ask.body (option_map type_of ask.kind) (ready_of s shape numbers));
  takes = taken_goes_on s;
  gives = given_goes_on s;
})
  where
    by_line : (conn : ℕ) (ask : Ask) (line : Option (Result Effect ℕ)) →
        IsProperIf s.studio s.notes (alone conn) (most_named (option_map type_of ask.kind)) line →
        GoesOn s (answers_by s conn ask line).studio (answers_by s conn ask line).next_conn
    by_line conn ask None is = same s
    by_line conn ask (Some (Err status)) is = same s
    by_line conn ask (Some (Ok effect)) is = grown s effect.studio s.next_conn (omega arith) is.grows

-- all numbers are within one more
pub numbers_on : (s t : Mixer) (most : ℕ) → GoesOn s t.studio t.next_conn → NumbersWithin most s →
    NumbersWithin (most + 1) t
numbers_on s t most on numbers = record {
  conns = omega (arith, on.conns, numbers.conns);
  serials = omega (arith, on.serials, numbers.serials);
  items = on.items most numbers.items;
  holds = omega (arith, on.holds, numbers.holds);
  watches = omega (arith, on.watches, numbers.watches);
  clock = omega (arith, on.clock, numbers.clock);
  audio = omega (arith, on.audio, numbers.audio);
}
