-- What waits for a connection is its queue, and the queue is what the history tells.
use Rattle.std.proofs.Common.{◌≡◌, ℕ, Bool, true, false, cond, ◌||◌, ◌==◌, not}
use Rattle.std.proofs.Common.{List, [], ◌∷◌, ◌++◌, map, filter, Option, Some, None}
use Rattle.std.proofs.Common.{refl, sym, ap, ◌∙◌, subst, append_assoc, append-nil}
use Rattle.std.specs.List.{flat_map, list_any}
use Rattle.std.specs.Option.{option_map, option_map_or}
use Rattle.std.proofs.lemmas.Bool.{eqb-true, false_from_ne_true, both_ways}
use Rattle.std.proofs.lemmas.Grind.{flat_map-append}
use Rattle.mix_audience.specs.Acting.{taken_by}
use Rattle.mix_audience.specs.Listeners.{Listener, is_listener, is_other, listener_at, new_listener}
use Rattle.mix_audience.specs.Listeners.{with_mask, queued, ended, waiting_for, taken_of}
use Rattle.mix_fanout.specs.Lanes.{is_but}
use Rattle.mix_model.specs.declared.event.Event.{Event}
use Rattle.mix_events.specs.declared.said.Said.TheVariants.{Event as OfEvent}
use Rattle.mix_engine.specs.declared.heading.Heading.{Heading}
use Rattle.mix_engine.specs.declared.heading.Heading.TheVariants as heading
use Rattle.mix_engine.specs.Answers.{told_by}
use Rattle.mix_engine.specs.Connections as att
use Rattle.mix_engine.specs.Connections.{Attendance}
use Rattle.mix_engine.specs.Headings.{actor_of}
use Rattle.mix_engine.specs.Mixer.{Connection}
use Rattle.mix_engine.specs.Mixings.{Mixed, conn_of, attended, listening}
use Rattle.mix_engine.specs.Outcomes.{Outcome, told_of}
use Rattle.mix_engine.specs.Queues.{queue_after, queue_from, queue}
use Rattle.mix_engine.specs.Replayed.{IsQueued}
use Rattle.mix_engine.specs.StepAnswers.{speech, told_to}
use Rattle.mix_engine.specs.Told.{Happened, happened, taken, takes, is_entry_of, since, told_at}
use Rattle.mix_engine.proofs.Actors.{IsOfActor}
use Rattle.mix_engine.proofs.Listening.{ended_if, ended_number, found_conn, queued_if}
use Rattle.mix_engine.proofs.Listening.{queued_number}

queue_on : (number : ℕ) (q : List Event) (hs : List Happened) (h : Happened) →
    queue_from number q (hs ++ h ∷ []) ≡ queue_after number (queue_from number q hs) h
queue_on number q [] h = refl
queue_on number q (k ∷ hs) h = queue_on number (queue_after number q k) hs h

-- the queue after one entry more
queue_more : (number : ℕ) (hs : List Happened) (h : Happened) →
    queue number (hs ++ h ∷ []) ≡ queue_after number (queue number hs) h
queue_more number hs h = queue_on number [] hs h

-- an entry of the connection itself, and one of another, before others with and without one
joined : (number : ℕ) (q : List Event) (h : Happened) (hs : List Happened) (here later : Bool) →
    cond later (flat_map (taken number) (since number hs))
    (cond here [] (q ++ taken number h) ++ flat_map (taken number) hs)
    ≡ cond (here || later)
    (flat_map (taken number) (cond later (since number hs) (cond here hs (h ∷ hs))))
    (q ++ flat_map (taken number) (h ∷ hs))
joined number q h hs true true = refl
joined number q h hs true false = refl
joined number q h hs false true = refl
joined number q h hs false false = append_assoc q (taken number h) (flat_map (taken number) hs)

-- from a queue on: where an own entry comes, only what follows the last one counts
since_from : (number : ℕ) (q : List Event) (hs : List Happened) →
    queue_from number q hs ≡ cond (list_any (is_entry_of number) hs)
    (flat_map (taken number) (since number hs)) (q ++ flat_map (taken number) hs)
since_from number q [] = sym (append-nil q)
since_from number q (h ∷ hs) = since_from number (queue_after number q h) hs
    ∙ joined number q h hs (is_entry_of number h) (list_any (is_entry_of number) hs)

unowned : (number : ℕ) (h : Happened) (hs : List Happened) (here later : Bool) →
    cond (here || later)
    (flat_map (taken number) (cond later (since number hs) (cond here hs (h ∷ hs))))
    (flat_map (taken number) (h ∷ hs))
    ≡ flat_map (taken number) (cond later (since number hs) (cond here hs (h ∷ hs)))
unowned number h hs true later = refl
unowned number h hs false true = refl
unowned number h hs false false = refl

-- without an own entry all count
none_own : (number : ℕ) (hs : List Happened) → cond (list_any (is_entry_of number) hs)
    (flat_map (taken number) (since number hs)) (flat_map (taken number) hs)
    ≡ flat_map (taken number) (since number hs)
none_own number [] = refl
none_own number (h ∷ hs) =
    unowned number h hs (is_entry_of number h) (list_any (is_entry_of number) hs)

-- the queue is what the connection takes of the entries after its last one
queue_since : (number : ℕ) (hs : List Happened) →
    queue number hs ≡ flat_map (taken number) (since number hs)
queue_since number hs = since_from number [] hs ∙ none_own number hs

-- the queue, what the connection takes of an entry, and what is said there, are what it is told
pub told_is : (number : ℕ) (before : List Happened) (h : Happened) →
    told_at number before h ≡ map OfEvent (queue number before ++ taken number h) ++ h.said
told_is number before h = rw (
  flat_map-append (taken number) (since number before) (h ∷ []),
  append-nil (taken number h),
  queue_since number before,
) refl

-- ---- what waits after an action

-- for a connection: nothing where it acted, and else what waited, and then what it takes
waits_one : (actor : Option ℕ) (events : List Event) (l : Listener) →
    (ended actor (queued actor events l)).waiting
    ≡ cond (is_but actor l.number) [] (l.waiting ++ taken_of l events)
waits_one actor events l =
    ap (λ n. let k : Listener = ended_if (is_but actor n) (queued actor events l) in k.waiting)
    (queued_number actor events l)
    ∙ (elim (is_but actor l.number)
    as (λ b. (let k : Listener = ended_if b (queued_if b events l) in k.waiting)
    ≡ cond b [] (l.waiting ++ taken_of l events)) [ true ↦ refl | false ↦ refl ])

waits_at : (actor : Option ℕ) (events : List Event) (number : ℕ) (ls : List Listener) →
    waiting_for number (map (ended actor) (map (queued actor events) ls))
    ≡ cond (is_but actor number) [] (waiting_for number ls ++ taken_by number ls events)
waits_at actor events number [] = elim (is_but actor number)
    as (λ b. let none : List Event = [] in none ≡ cond b none none) [ true ↦ refl | false ↦ refl ]
waits_at actor events number (l ∷ ls) =
    ap (λ n. option_map_or (λ (k : Listener). k.waiting) (cond (n == number)
    (Some (ended actor (queued actor events l)))
    (listener_at number (map (ended actor) (map (queued actor events) ls)))) [])
    (ended_number actor (queued actor events l) ∙ queued_number actor events l)
    ∙ (elim (is_listener number l) as (λ b. is_listener number l ≡ b →
    option_map_or (λ (k : Listener). k.waiting) (cond b
    (Some (ended actor (queued actor events l)))
    (listener_at number (map (ended actor) (map (queued actor events) ls)))) []
    ≡ cond (is_but actor number) []
    (option_map_or (λ (k : Listener). k.waiting) (cond b (Some l) (listener_at number ls)) []
    ++ option_map_or (λ (k : Listener). taken_of k events)
    (cond b (Some l) (listener_at number ls)) [])) [
      | true ↦ λ here. waits_one actor events l
          ∙ ap (λ n. cond (is_but actor n) [] (l.waiting ++ taken_of l events))
          (eqb-true l.number number here)
      | false ↦ λ apart. waits_at actor events number ls
    ]) refl

-- a connection whose entry it is, is another than one whose entry it isn't
differs : (conn number : ℕ) (actor : Option ℕ) → is_but actor conn ≡ true →
    is_but actor number ≡ false → (conn == number) ≡ false
differs conn number actor is other = false_from_ne_true (conn == number)
    (λ e. both_ways (is_but actor number) other
    (subst (λ k. is_but actor k ≡ true) (eqb-true conn number e) is))

joins_stay : (number : ℕ) (l : Listener) (ls : List Listener) → is_listener number l ≡ false →
    listener_at number (ls ++ l ∷ []) ≡ listener_at number ls
joins_stay number l [] other = rw other refl
joins_stay number l (k ∷ ls) other = elim (is_listener number k)
    as (λ b. cond b (Some k) (listener_at number (ls ++ l ∷ []))
    ≡ cond b (Some k) (listener_at number ls))
    [ true ↦ refl | false ↦ joins_stay number l ls other ]

masks_stay : (number conn mask : ℕ) (ls : List Listener) → (conn == number) ≡ false →
    listener_at number (map (with_mask conn mask) ls) ≡ listener_at number ls
masks_stay number conn mask [] other = refl
masks_stay number conn mask (l ∷ ls) other = (elim (is_listener conn l)
    as (λ b. is_listener conn l ≡ b →
    (let k : Listener = cond b (record l { mask = Some mask }) l in cond (is_listener number k)
    (Some k) (listener_at number (map (with_mask conn mask) ls)))
    ≡ cond (is_listener number l) (Some l) (listener_at number ls)) [
      | true ↦ λ here. rw (ap (λ k. k == number) (eqb-true l.number conn here) ∙ other)
          (masks_stay number conn mask ls other)
      | false ↦ λ apart. ap (cond (is_listener number l) (Some l))
          (masks_stay number conn mask ls other)
    ]) refl

leaves_stay : (number conn : ℕ) (ls : List Listener) → (conn == number) ≡ false →
    listener_at number (filter (is_other conn) ls) ≡ listener_at number ls
leaves_stay number conn [] other = refl
leaves_stay number conn (l ∷ ls) other = (elim (is_listener conn l)
    as (λ b. is_listener conn l ≡ b → listener_at number
    (cond (not b) (l ∷ filter (is_other conn) ls) (filter (is_other conn) ls))
    ≡ cond (is_listener number l) (Some l) (listener_at number ls)) [
      | true ↦ λ here. rw (ap (λ k. k == number) (eqb-true l.number conn here) ∙ other)
          (leaves_stay number conn ls other)
      | false ↦ λ apart. ap (cond (is_listener number l) (Some l))
          (leaves_stay number conn ls other)
    ]) refl

-- who comes, goes, or is identified changes nobody else
others_stay : (number : ℕ) (actor : Option ℕ) (attendance : Attendance) (ls : List Listener) →
    IsOfActor attendance actor → is_but actor number ≡ false →
    listener_at number (attended attendance ls) ≡ listener_at number ls
others_stay number actor (att.Joins conn challenge) ls is other =
    joins_stay number (new_listener conn challenge) ls (differs conn number actor is other)
others_stay number actor (att.Identifies conn mask) ls is other =
    masks_stay number conn mask ls (differs conn number actor is other)
others_stay number actor (att.Leaves conn) ls is other =
    leaves_stay number conn ls (differs conn number actor is other)
others_stay number actor _ ls is other = refl

takes_same : (listener : Option Listener) (events : List Event) →
    option_map_or (λ (c : Connection). takes c events) (option_map conn_of listener) []
    ≡ option_map_or (λ (l : Listener). taken_of l events) listener []
takes_same None events = refl
takes_same (Some l) events = refl

-- what a connection takes of an entry is what its listener takes
taken_same : (number : ℕ) (m : Mixed) (o : Outcome) → m.mixer.conns ≡ map conn_of m.listeners →
    taken number (happened m.mixer o) ≡ taken_by number m.listeners (told_of m.mixer o)
taken_same number m o conns = rw (conns, found_conn number m.listeners)
    (takes_same (listener_at number m.listeners) (told_of m.mixer o))

-- what waits after an outcome: nothing for the one that acted, and for another what waited, and then
-- what it takes
waits_after : (number : ℕ) (m : Mixed) (o : Outcome) → IsOfActor o.attendance (actor_of o.heading) →
    waiting_for number (listening m.mixer o m.listeners)
    ≡ cond (is_but (actor_of o.heading) number) [] (waiting_for number m.listeners
    ++ taken_by number m.listeners (told_of m.mixer o))
waits_after number m o actor =
    waits_at (actor_of o.heading) (told_of m.mixer o) number (attended o.attendance m.listeners)
    ∙ (elim (is_but (actor_of o.heading) number) as (λ b. is_but (actor_of o.heading) number ≡ b →
    cond b [] (waiting_for number (attended o.attendance m.listeners)
    ++ taken_by number (attended o.attendance m.listeners) (told_of m.mixer o))
    ≡ cond b [] (waiting_for number m.listeners
    ++ taken_by number m.listeners (told_of m.mixer o))) [
      | true ↦ λ here. refl
      | false ↦ λ other. ap (λ found. option_map_or (λ (k : Listener). k.waiting) found []
          ++ option_map_or (λ (k : Listener). taken_of k (told_of m.mixer o)) found [])
          (others_stay number (actor_of o.heading) o.attendance m.listeners actor other)
    ]) refl

-- what waits for each connection stays its queue
pub queued_more : (m : Mixed) (o : Outcome) (hs : List Happened) →
    m.mixer.conns ≡ map conn_of m.listeners → IsOfActor o.attendance (actor_of o.heading) →
    IsQueued hs m.listeners →
    IsQueued (hs ++ happened m.mixer o ∷ []) (listening m.mixer o m.listeners)
queued_more m o hs conns actor waits number = rw (
  waits_after number m o actor,
  waits number,
  ← taken_same number m o conns,
  queue_more number hs (happened m.mixer o),
) refl

told_same : (number : ℕ) (before : List Happened) (m : Mixed) (o : Outcome) →
    m.mixer.conns ≡ map conn_of m.listeners → IsQueued before m.listeners →
    told_to number m o ≡ told_at number before (happened m.mixer o)
told_same number before m o conns waits = rw (
  waits number,
  ← taken_same number m o conns,
  told_is number before (happened m.mixer o),
) refl

-- what is told with a reply is what the history tells
pub speech_is : (reply : Heading) (before : List Happened) (m : Mixed) (o : Outcome) →
    m.mixer.conns ≡ map conn_of m.listeners → IsQueued before m.listeners →
    speech reply m o ≡ told_by reply before (happened m.mixer o)
speech_is (heading.Told conn) before m o conns waits = told_same conn before m o conns waits
speech_is (heading.Closed conn code) before m o conns waits =
    told_same conn before m o conns waits
speech_is _ before m o conns waits = refl
