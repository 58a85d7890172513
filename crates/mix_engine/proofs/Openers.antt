-- The mixer that a collection opens, and the engine over it.
use Rattle.std.proofs.Common.{◌≡◌, ◌≢◌, ◌∙◌, ℕ, ◌≤◌, Bool, true, false, not, cond, List, []}
use Rattle.std.proofs.Common.{Option, Some, None, is_some, Result, Ok, Err, IsTrue, refl, sym, ap}
use Rattle.std.proofs.Common.{length, arith}
use Rattle.std.specs.Option.{is_none}
use Rattle.std.specs.Prelude.{is_ok}
use Rattle.mix_audience.specs.Listeners.{AudienceModel, waiting_for}
use Rattle.mix_base.specs.declared.rate.Rate.{Rate}
use Rattle.mix_model.specs.declared.action.Entry.{Entry}
use Rattle.mix_model.specs.declared.collection.Collection.{Collection}
use Rattle.mix_model.specs.declared.fault.GraphFault.{GraphFault}
use Rattle.mix_model.specs.declared.fault.GraphFault.TheVariants.{NoMemory}
use Rattle.mix_model.specs.declared.notes.Note.{Note}
use Rattle.mix_model.specs.declared.notes.Notes.{Notes}
use Rattle.mix_model.specs.Edits.{empty_graph}
use Rattle.mix_model.specs.Lines.{lines_done, unless}
use Rattle.mix_model.specs.Opening.{ends_cause, no_notes, opening_of, opening_state}
use Rattle.mix_model.specs.Opening.{opening_studio, studio_over}
use Rattle.mix_model.specs.State.{GraphState, StudioState}
use Rattle.mix_shape.specs.Refused.{are_limits}
use Rattle.mix_studio.specs.declared.setup.Setup.{Setup}
use Rattle.mix_studio.specs.Openings.{IsLow, IsRefusal}
use Rattle.mix_engine.specs.declared.head.Head.{Head}
use Rattle.mix_engine.specs.Answers.{state_after}
use Rattle.mix_engine.specs.Engines.{engine_of, opened}
use Rattle.mix_engine.specs.Heads.{head_of}
use Rattle.mix_engine.specs.Mixer.{Mixer, start_of, studio_or}
use Rattle.mix_engine.specs.Mixings.{Mixed, mixed_of}
use Rattle.mix_engine.specs.Numbers.{NumbersWithin}
use Rattle.mix_engine.specs.Openings.{can_open}
use Rattle.mix_engine.specs.Replayed.{Replayed}

-- ---- whether a collection opens

none_is : {A : Type 0} (o : Option A) → is_none o ≡ not (is_some o)
none_is None = refl
none_is (Some x) = refl

-- where a preview is asked for it doesn't
pub shut_preview : (c : Collection) → is_some c.studio ≡ true → false ≡ can_open c
unfolding can_open
shut_preview c asked = sym (rw (none_is c.studio, asked) refl)

-- and else as nothing in it is refused
pub opens_as : (c : Collection) (r : Result StudioState GraphFault) → is_some c.studio ≡ false →
    opening_of c ≡ r → is_ok r ≡ can_open c
unfolding can_open
opens_as c r unasked is = sym (rw (none_is c.studio, unasked, is) refl)

-- a fault that isn't want of memory is the refusal
pub is_refusal : (r : Result StudioState GraphFault) (fault : GraphFault) → fault ≢ NoMemory →
    IsRefusal r fault → r ≡ Err fault
is_refusal r NoMemory other is = absurd (other refl)
is_refusal r _ other is = is

-- ---- the mixer that opens

pub start_is : (c : Collection) (s : StudioState) → opening_of c ≡ Ok s →
    opening_state c s ≡ start_of c
start_is c s is = rw is refl

pub notes_none : (holds watches : List Note) → holds ≡ [] → watches ≡ [] →
    (let n : Notes = record { stop = false; holds = holds; watches = watches; sleep = 0 } in n)
    ≡ no_notes
notes_none holds watches first second = rw (first, second) refl

pub nobody_yet : (c : Collection) (s : StudioState) (notes : Notes) (a : AudienceModel) →
    notes ≡ no_notes → a.secret ≡ c.secret → a.listeners ≡ [] →
    (mixed_of s notes a 1).mixer ≡ opening_state c s
unfolding opening_state
nobody_yet c s notes a none secret nobody = rw (none, secret, nobody) refl

pub opened_numbers : (s : StudioState) (notes : Notes) (a : AudienceModel) → IsLow s →
    NumbersWithin 4096 (mixed_of s notes a 1).mixer
opened_numbers s notes a low = record {
  conns = omega arith;
  serials = low.serials;
  items = low.items;
  holds = low.holds;
  watches = low.watches;
  clock = low.clock;
  audio = low.audio;
}

-- ---- the engine over it

-- where a mixer opens an engine does, with an empty journal
pub engine_opened : (setup : Setup) (journal : List Entry) → journal ≡ [] →
    true ≡ can_open setup.collection →
    Some (record (opened setup) { journal = journal }) ≡ engine_of setup
engine_opened setup journal empty can =
    ap (λ (l : List Entry). Some (record (opened setup) { journal = l })) empty
    ∙ ap (λ b. cond b (Some (opened setup)) None) can

-- and where none opens there is none
pub engine_unopened : (setup : Setup) → false ≡ can_open setup.collection → None ≡ engine_of setup
engine_unopened setup can = ap (λ b. cond b (Some (opened setup)) None) can

-- nothing was done yet
opens_replayed : (start : Mixer) (m : Mixed) → m.mixer ≡ start → m.listeners ≡ [] →
    NumbersWithin 4096 m.mixer → Replayed start [] m 0
opens_replayed start m same nobody numbers = record {
  state = same;
  queues = λ number. ap (waiting_for number) nobody;
  bytes = refl;
  numbers = numbers;
  i420 = ap (λ (t : Mixer). t.studio.i420) same;
  tracks = ap (λ (t : Mixer). t.studio.tracks) same;
}

-- an empty journal is replayed by the mixer that opens
pub opening_replayed : (setup : Setup) (m : Mixed) (journal : List Entry) → journal ≡ [] →
    m.mixer ≡ start_of setup.collection → m.listeners ≡ [] → NumbersWithin 4096 m.mixer →
    IsTrue (are_limits setup.limits) →
    Replayed (start_of setup.collection) journal m 0 × IsTrue (are_limits setup.limits)
    × (length journal ≤ setup.limits.turns) × (0 ≤ setup.limits.bytes)
opening_replayed setup m journal empty same nobody numbers limits = rw empty (
  opens_replayed (start_of setup.collection) m same nobody numbers,
  limits,
  omega arith,
  omega arith,
)

-- ---- the head of a record

-- records are made as the collection says
format_of : (c : Collection) (lines : Result GraphState GraphFault) →
    ((studio_or c (studio_over c lines)).i420 ≡ c.i420)
    × ((studio_or c (studio_over c lines)).tracks ≡ c.tracks)
unfolding opening_studio
format_of c (Err fault) = (refl, refl)
format_of c (Ok g) =
    elim (ends_cause c g) as (λ cause. let r : Result StudioState GraphFault
    = unless cause (Ok (opening_studio c g)) in
    ((studio_or c r).i420 ≡ c.i420) × ((studio_or c r).tracks ≡ c.tracks))
    [ None ↦ (refl, refl) | Some fault ↦ (refl, refl) ]

start_format : (c : Collection) →
    ((start_of c).studio.i420 ≡ c.i420) × ((start_of c).studio.tracks ≡ c.tracks)
unfolding opening_state opening_of
start_format c = format_of c (lines_done empty_graph c.lines)

abbrev head_like : Bool → ℕ → ℕ × ℕ → Rate → ℕ → Head
head_like i420 tracks canvas rate recording = record {
  i420 = i420;
  tracks = tracks;
  width = canvas.0;
  height = canvas.1;
  rate = rate;
  recording = recording;
}

pub head_is : (c : Collection) (journal : List Entry) (m : Mixed) (count : ℕ) (canvas : ℕ × ℕ)
    (rate : Rate) (recording : ℕ) → Replayed (start_of c) journal m count →
    canvas ≡ m.mixer.studio.canvas → rate ≡ m.mixer.studio.rate →
    head_like c.i420 c.tracks canvas rate recording
    ≡ head_of (state_after (start_of c) journal).studio recording
head_is c journal m count canvas rate recording replayed sized rated =
    rw (
      ← replayed.state,
      replayed.i420 ∙ (start_format c).0,
      replayed.tracks ∙ (start_format c).1,
      sized,
      rated,
    ) refl
