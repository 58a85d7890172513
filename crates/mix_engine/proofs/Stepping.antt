-- What the steps of the code answer and leave.
use Rattle.std.proofs.Common.{◌≡◌, ◌∙◌, ℕ, ◌<◌, Bool, true, false, List, [], ◌∷◌, ◌++◌}
use Rattle.std.proofs.Common.{length, map, All, Option, Some, None, is_some, option_map, Result}
use Rattle.std.proofs.Common.{refl, sym, ap, subst, nat_lt, arith, ltb-true}
use Rattle.std.specs.List.{list_all}
use Rattle.std.specs.Option.{option_map_or}
use Rattle.std.proofs.lemmas.List.{append-nil, length-map}
use Rattle.std.proofs.lemmas.List.Elements.{All-append, All-nil}
use Rattle.mix_audience.specs.Acting.{taken_by}
use Rattle.mix_audience.specs.Listeners.{AudienceModel, Listener, ended, listener_at}
use Rattle.mix_audience.specs.Listeners.{waiting_for}
use Rattle.mix_base.specs.declared.no_memory.NoMemory.{NoMemory}
use Rattle.mix_events.specs.Sayable.{IsSayableEvent}
use Rattle.mix_events.specs.Sayings.{IsSayable}
use Rattle.mix_events.specs.declared.said.Said.{Said}
use Rattle.mix_events.specs.declared.said.Said.TheVariants.{Event as OfEvent}
use Rattle.mix_model.specs.Shape.{ids_below}
use Rattle.mix_model.specs.State.{StudioState}
use Rattle.mix_model.specs.WholeShape.{conn_numbers}
use Rattle.mix_model.proofs.DyingLemmas.{member_passes}
use Rattle.mix_model.proofs.SetLemmas.{and_second}
use Rattle.mix_session.specs.SessionState.{hello}
use Rattle.mix_engine.specs.declared.heading.Heading.{Heading}
use Rattle.mix_engine.specs.declared.heading.Heading.TheVariants as heading
use Rattle.mix_engine.specs.declared.step_answer.StepAnswer.{StepAnswer}
use Rattle.mix_engine.specs.Answers.{is_due}
use Rattle.mix_engine.specs.Connections.{Attendance, conn_at, first_due}
use Rattle.mix_engine.specs.Headings.{actor_of, is_unbuilt}
use Rattle.mix_engine.specs.Leaving.{goes}
use Rattle.mix_engine.specs.Mixer.{Connection}
use Rattle.mix_engine.specs.Mixings.{IsListener, IsMixing, Mixed, attended, conn_of, mixed_of}
use Rattle.mix_engine.specs.Outcomes.{Outcome, only}
use Rattle.mix_engine.specs.Settling.{settling_events}
use Rattle.mix_engine.specs.Step.{acting, goes_on}
use Rattle.mix_engine.specs.StepAnswers.{HasShot, HasVoices, IsComplete, IsOpen, IsUntold, Says}
use Rattle.mix_engine.specs.StepAnswers.{Stepped, Steps, speech, told_to}
use Rattle.mix_engine.proofs.Listening.{IsDeafTo, found_conn, heard_sayable, queued_none}
use Rattle.mix_engine.proofs.Listening.{settling_is, taken_heard, taken_none}
use Rattle.mix_engine.proofs.Shapes.{Attends, LeftBy, Stay, built_after, found_as, kept_fit}
use Rattle.mix_engine.proofs.Shapes.{numbers_of, numbers_same, parts_left}

-- ---- what is told to the one that acts

-- of what an outcome tells, the one that acts takes its own events alone
pub told_own : (m : Mixed) (conn : ℕ) (o : Outcome) → All IsListener m.listeners →
    told_to conn m o ≡ map OfEvent (waiting_for conn m.listeners
    ++ taken_by conn m.listeners o.events) ++ o.said
told_own m conn o all =
    ap (λ taken. map OfEvent (waiting_for conn m.listeners ++ taken) ++ o.said)
    (taken_heard o.events (settling_events m.mixer.studio.graph o.studio.graph)
    (settling_is m.mixer.studio.graph o.studio.graph) conn m.listeners all)

told_sayable : (m : Mixed) (conn : ℕ) (o : Outcome) → All IsListener m.listeners →
    All IsSayableEvent o.events → All IsSayable o.said → All IsSayable (told_to conn m o)
told_sayable m conn o all events said = rw (told_own m conn o all) (All-append IsSayable
    (map OfEvent (waiting_for conn m.listeners ++ taken_by conn m.listeners o.events)) o.said
    (heard_sayable conn m.listeners o.events all events) said)

-- it can be said
speech_sayable : (reply : Heading) (m : Mixed) (o : Outcome) → All IsListener m.listeners →
    All IsSayableEvent o.events → All IsSayable o.said → All IsSayable (speech reply m o)
speech_sayable (heading.Told conn) m o all events said = told_sayable m conn o all events said
speech_sayable (heading.Closed conn code) m o all events said =
    told_sayable m conn o all events said
speech_sayable _ m o all events said = All-nil IsSayable

-- ---- answers

-- a heading of what is built, with neither a shot nor voices
abbrev pub IsBare : Heading → Type 0
IsBare (heading.Frame number recording) = ⊥
IsBare (heading.Block number recording) = ⊥
IsBare heading.NotBuilt = ⊥
IsBare _ = Unit {0}

bare_parts : (reply : Heading) (found : StudioState) → IsBare reply → HasShot reply found None
    × HasVoices reply found None × IsComplete reply None None × (is_unbuilt reply ≡ false)
bare_parts (heading.Frame number recording) found bare = absurd bare
bare_parts (heading.Block number recording) found bare = absurd bare
bare_parts heading.NotBuilt found bare = absurd bare
bare_parts _ found bare = (refl, refl, tt, refl)

-- what says all that is to be said, where all is left that is to be left, is the answer
pub stepped : {m new : Mixed} {o : Outcome} → IsMixing m → LeftBy m o new → (answer : StepAnswer) →
    IsBare o.heading → (items : List Said) → Says answer o.heading items →
    items ≡ speech o.heading m o → Stepped m new answer o
stepped {m} {new} {o} mixing left answer bare items says is =
    let parts = bare_parts o.heading m.mixer.studio bare in
    record {
      heading = says.heading;
      said = says.said ∙ is;
      shot = rw says.shot parts.0;
      voices = rw says.voices parts.1;
      complete = rw (says.heading, says.shot, says.voices) parts.2;
      sayable = rw (says.said, is)
          (speech_sayable o.heading m o mixing.listeners left.fit.sayable left.fit.said);
      state = left.is ∙ sym (built_after m o parts.3);
    }

-- where an outcome has no events, what waited is told, and what is said
pub tells : {m new : Mixed} {o : Outcome} → IsMixing m → LeftBy m o new → (conn : ℕ)
    (answer : StepAnswer) (items : List Said) → IsBare o.heading → o.events ≡ [] →
    told_to conn m o ≡ speech o.heading m o → Says answer o.heading items →
    items ≡ map OfEvent (waiting_for conn m.listeners) ++ o.said → Stepped m new answer o
tells {m} {new} {o} mixing left conn answer items bare none spoken says is =
    let all : items ≡ told_to conn m o = rw (
      is,
      told_own m conn o mixing.listeners,
      none,
      taken_none (listener_at conn m.listeners),
      append-nil (waiting_for conn m.listeners),
    ) refl in
    stepped mixing left answer bare items says (all ∙ spoken)

-- with these headings nothing is told
pub untold : (reply : Heading) (m : Mixed) (o : Outcome) → IsUntold reply →
    IsBare reply × ([] ≡ speech reply m o)
untold heading.Full m o is = (tt, refl)
untold (heading.Gone conn) m o is = (tt, refl)
untold heading.NoFrame m o is = (tt, refl)
untold heading.NoSuchFrame m o is = (tt, refl)
untold _ m o is = absurd is

-- one in the mixer as it is seen
pub of_seen : {m k new : Mixed} {answer : StepAnswer} (o : Mixed → Outcome) → m ≡ k →
    Stepped m new answer (o m) → Stepped k new answer (o k)
of_seen {m} {k} {new} {answer} o seen steps = subst (λ x. Stepped x new answer (o x)) seen steps

-- no batch of anybody is due
pub not_due : (m : Mixed) (conn : ℕ) → IsMixing m → is_due m.mixer conn ≡ false
not_due m conn mixing =
    rw (mixing.conns, found_conn conn m.listeners) (idle (listener_at conn m.listeners))
  where
    idle : (found : Option Listener) → option_map_or
        (λ (c : Connection). first_due m.mixer.studio.graph.clock c.batches)
        (option_map conn_of found) false ≡ false
    idle None = refl
    idle (Some l) = refl

-- the next number is nobody's
nobody_has : (n : ℕ) (ls : List Listener) → list_all (λ id. nat_lt id n) (numbers_of ls) ≡ true →
    listener_at n ls ≡ None
nobody_has n ls below = (elim (listener_at n ls)
    as (λ found. listener_at n ls ≡ found → found ≡ None) [
      | None ↦ λ is. refl
      | Some l ↦ λ is. (let less : n < n = ltb-true n n (member_passes (λ id. nat_lt id n) n
          (numbers_of ls) (sym (found_as n ls) ∙ ap is_some is) below) in
          absurd (omega arith))
    ]) refl

-- ---- what the code leaves and answers

module _ {m : Mixed} (mixing : IsMixing m) where
  -- what tells nobody but the one that acts, and leaves studio and notes
  pub quietly_left : (at : Attendance) (reply : Heading) (said : List Said) (n : ℕ)
      (a : AudienceModel) → Attends m.mixer at n → IsDeafTo at → Stay at → All IsSayable said →
      a.secret ≡ m.mixer.secret →
      a.listeners ≡ map (ended (actor_of reply)) (attended at m.listeners) →
      LeftBy m (record (only m.mixer reply said) { attendance = at; next_conn = n })
      (mixed_of m.mixer.studio m.mixer.notes a n)
  quietly_left at reply said n a attends deaf stay sayable knows is =
      let o : Outcome = record (only m.mixer reply said) { attendance = at; next_conn = n } in
      parts_left mixing o (kept_fit mixing.shape o mixing.shape.studio attends deaf stay
      (All-nil IsSayableEvent) sayable refl refl refl) a refl refl refl knows
      (is ∙ ap (map (ended (actor_of reply)))
      (sym (queued_none (actor_of reply) (attended at m.listeners))))

  -- ---- a connection comes

  -- whether there is room for it
  pub has_place : (b : Bool) → nat_lt (length m.listeners) 64 ≡ b →
      nat_lt (length m.mixer.conns) 64 ≡ b
  has_place b is =
      ap (λ k. nat_lt k 64) (ap length mixing.conns ∙ length-map m.listeners conn_of) ∙ is

  -- it has the next number
  pub unknown : listener_at m.mixer.next_conn m.listeners ≡ None
  unknown = nobody_has m.mixer.next_conn m.listeners (and_second _ _
      (subst (λ ids. ids_below m.mixer.next_conn ids ≡ true)
      (ap conn_numbers mixing.conns ∙ numbers_same m.listeners) mixing.shape.conn_ids))

  -- and nothing waits for it, so that it is told Hello
  pub greeted : (challenge : List ℕ) {items before : List Said} {said : Said} → before ≡ [] →
      items ≡ before ++ said ∷ [] → said ≡ hello m.mixer.secret challenge →
      items ≡ map OfEvent (waiting_for m.mixer.next_conn m.listeners)
      ++ hello m.mixer.secret challenge ∷ []
  greeted challenge empty is greets = rw (is, empty, greets, unknown) refl

-- ---- the open connection of a number

-- an action of it, by the listener
acting_at : {k m : Mixed} → IsMixing k → k ≡ m → (conn : ℕ) (act : Connection → Outcome) →
    acting m.mixer conn (conn_at conn m.mixer.conns) act
    ≡ acting m.mixer conn (option_map conn_of (listener_at conn k.listeners)) act
acting_at {k} mixing seen conn act =
    rw (← seen, mixing.conns, found_conn conn k.listeners) refl

open_is : {m : Mixed} → IsMixing m → (conn : ℕ) (act : Connection → Outcome)
    (there : IsOpen m conn) →
    acting m.mixer conn (conn_at conn m.mixer.conns) act ≡ act (conn_of there.one)
open_is {m} mixing conn act there = acting_at mixing refl conn act
    ∙ ap (λ o. acting m.mixer conn (option_map conn_of o) act) there.found
    ∙ rw there.uncut refl

pub open_steps : {m : Mixed} → IsMixing m → (conn : ℕ) (result : Result StepAnswer NoMemory)
    (new : Mixed) (act : Connection → Outcome) (there : IsOpen m conn) →
    Steps result m new (act (conn_of there.one)) →
    Steps result m new (acting m.mixer conn (conn_at conn m.mixer.conns) act)
open_steps {m} mixing conn result new act there steps =
    subst (Steps result m new) (sym (open_is mixing conn act there)) steps

-- so far the next request of nobody is due
pub goes_on_waiting : {m : Mixed} → IsMixing m → (conn : ℕ) →
    acting m.mixer conn (conn_at conn m.mixer.conns) (goes_on m.mixer conn)
    ≡ acting m.mixer conn (conn_at conn m.mixer.conns) (λ c. only m.mixer (heading.Told conn) [])
goes_on_waiting {m} mixing conn =
    rw (mixing.conns, found_conn conn m.listeners) (waiting (listener_at conn m.listeners))
  where
    waiting : (found : Option Listener) →
        acting m.mixer conn (option_map conn_of found) (goes_on m.mixer conn)
        ≡ acting m.mixer conn (option_map conn_of found)
        (λ c. only m.mixer (heading.Told conn) [])
    waiting None = refl
    waiting (Some l) = refl

module _ {k m : Mixed} (mixing : IsMixing k) (seen : k ≡ m) (conn : ℕ) where
  -- a connection that isn't open is told so
  pub away_gone : {new : Mixed} {answer : StepAnswer} →
      None ≡ option_map (λ (l : Listener). l.cut) (listener_at conn k.listeners) →
      Stepped m new answer (only m.mixer (heading.Gone conn) []) → (act : Connection → Outcome) →
      Stepped m new answer (acting m.mixer conn (conn_at conn m.mixer.conns) act)
  away_gone {new} {answer} is steps act = subst (Stepped m new answer)
      (sym (acting_at mixing seen conn act)) (lost (listener_at conn k.listeners) is)
    where
      lost : (found : Option Listener) → None ≡ option_map (λ (l : Listener). l.cut) found →
          Stepped m new answer (acting m.mixer conn (option_map conn_of found) act)
      lost None is' = steps
      lost (Some l) is' = cc

  -- one that is cut is closed
  pub away_cut : {new : Mixed} {answer : StepAnswer} →
      Some true ≡ option_map (λ (l : Listener). l.cut) (listener_at conn k.listeners) →
      Stepped m new answer (goes m.mixer conn (heading.Closed conn 4011)) →
      (act : Connection → Outcome) →
      Stepped m new answer (acting m.mixer conn (conn_at conn m.mixer.conns) act)
  away_cut {new} {answer} is steps act = subst (Stepped m new answer)
      (sym (acting_at mixing seen conn act)) (shut (listener_at conn k.listeners) is)
    where
      shut : (found : Option Listener) → Some true ≡ option_map (λ (l : Listener). l.cut) found →
          Stepped m new answer (acting m.mixer conn (option_map conn_of found) act)
      shut None is' = cc
      shut (Some l) is' = let cut : l.cut ≡ true = cc in rw cut steps

  -- of any other nothing is done
  pub away_none : Some false ≡ option_map (λ (l : Listener). l.cut) (listener_at conn k.listeners) →
      IsOpen m conn
  away_none is = there (listener_at conn k.listeners)
      (ap (λ (x : Mixed). listener_at conn x.listeners) (sym seen)) is
    where
      there : (found : Option Listener) → listener_at conn m.listeners ≡ found →
          Some false ≡ option_map (λ (l : Listener). l.cut) found → IsOpen m conn
      there None at is' = cc
      there (Some l) at is' = record { one = l; found = at; uncut = cc }

-- an action of one that was seen to be open
pub open_then : {m m' : Mixed} → IsMixing m → (conn : ℕ) (result : Result StepAnswer NoMemory)
    (new : Mixed) (act : Mixed → Outcome) → (m' ≡ m) × IsOpen m conn →
    Steps result m' new (act m') →
    Steps result m new (acting m.mixer conn (conn_at conn m.mixer.conns) (λ c. act m))
open_then {m} mixing conn result new act there steps =
    open_steps mixing conn result new (λ c. act m) there.1
    (subst (λ x. Steps result x new (act x)) there.0 steps)
