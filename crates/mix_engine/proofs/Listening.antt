-- The open connections: as the state has them, and what an action leaves of them.
use Rattle.std.proofs.Common.{◌≡◌, ◌∙◌, ℕ, ◌+◌, Bool, true, false, cond, not, ◌&&◌, ◌||◌, ◌==◌}
use Rattle.std.proofs.Common.{List, [], ◌∷◌, ◌++◌, length, map, All, get_or}
use Rattle.std.proofs.Common.{Option, Some, None, option_map, refl, sym, ap, subst}
use Rattle.std.specs.Prelude.{nat_le, bit_and}
use Rattle.std.specs.Option.{option_map_or}
use Rattle.std.proofs.lemmas.List.{append-nil, length-append, map-append}
use Rattle.std.proofs.lemmas.List.Elements.{All-head, All-tail, All-map, All-push, All-nil}
use Rattle.std.proofs.lemmas.List.Elements.{All-append, All-filter, filter-append}
use Rattle.mix_audience.specs.Acting.{taken_by}
use Rattle.mix_audience.specs.Listeners.{Listener, is_listener, is_other, listener_at}
use Rattle.mix_audience.specs.Listeners.{new_listener, with_mask, waiting_for, taken_of}
use Rattle.mix_audience.specs.Listeners.{queued, ended}
use Rattle.mix_audience.specs.Taking as audience
use Rattle.mix_audience.proofs.Lists.{find_under, filter_under}
use Rattle.mix_base.specs.Limits.{standard}
use Rattle.mix_events.specs.Sayable.{IsSayableEvent}
use Rattle.mix_events.specs.Sayings.{IsSayable}
use Rattle.mix_fanout.specs.Lanes.{is_but, wants}
use Rattle.mix_model.specs.declared.change.Change.{Change}
use Rattle.mix_model.specs.declared.change.Change.TheVariants.{Active, Showing}
use Rattle.mix_model.specs.declared.event.Event.{Event}
use Rattle.mix_model.specs.declared.event.Event.TheVariants as event
use Rattle.mix_events.specs.declared.said.Said.TheVariants.{Event as OfEvent}
use Rattle.mix_model.proofs.SetLemmas.{and_first, and_second}
use Rattle.mix_model.specs.Settle.{told_changes}
use Rattle.mix_model.specs.State.{GraphState}
use Rattle.mix_engine.specs.Connections as conns
use Rattle.mix_engine.specs.Connections.{Attendance, is_conn, conn_at, attending}
use Rattle.mix_engine.specs.Headings.{actor_of}
use Rattle.mix_engine.specs.Mixer.{Mixer, Connection}
use Rattle.mix_engine.specs.Mixings.{conn_of, attended, listening, IsDeafMask, IsListener}
use Rattle.mix_engine.specs.Outcomes.{Outcome, told_of}
use Rattle.mix_engine.specs.Settling.{change_event, settling_events}
use Rattle.mix_engine.specs.Step.{is_deaf, rested}
use Rattle.mix_engine.specs.Told.{takes}

-- ---- as the state has them

-- the open connection of a number is that of the listener
pub found_conn : (conn : ℕ) (ls : List Listener) →
    conn_at conn (map conn_of ls) ≡ option_map conn_of (listener_at conn ls)
found_conn conn ls = find_under (is_conn conn) (is_listener conn) conn_of (λ l. refl) ls

-- the same as the definitions say, by whether the connection is the one that acts
abbrev pub queued_if : Bool → List Event → Listener → Listener
queued_if b events l = cond b l (record l { waiting = l.waiting ++ taken_of l events })

abbrev pub ended_if : Bool → Listener → Listener
ended_if b l = cond b (record l { waiting = [] })
    (record l { cut = l.cut || nat_le standard.waiting (length l.waiting) })

abbrev pub rested_if : Bool → List Event → Connection → Connection
rested_if b events c = cond b (record c { waits = 0 }) (record c {
  waits = c.waits + length (takes c events);
  cut = c.cut || nat_le standard.waiting (c.waits + length (takes c events));
})

rests_if : (b : Bool) (events : List Event) (l : Listener) →
    conn_of (ended_if b (queued_if b events l)) ≡ rested_if b events (conn_of l)
rests_if true events l = refl
rests_if false events l = ap (λ n. let c : Connection = record (conn_of l) {
  waits = n;
  cut = l.cut || nat_le standard.waiting n;
} in c) (length-append l.waiting (taken_of l events))

-- telling changes no number
pub ended_number : (actor : Option ℕ) (l : Listener) → (ended actor l).number ≡ l.number
ended_number actor l = elim (is_but actor l.number) as (λ b. (ended_if b l).number ≡ l.number)
    [ true ↦ refl | false ↦ refl ]

pub queued_number : (actor : Option ℕ) (events : List Event) (l : Listener) →
    (queued actor events l).number ≡ l.number
queued_number actor events l = elim (is_but actor l.number)
    as (λ b. (queued_if b events l).number ≡ l.number) [ true ↦ refl | false ↦ refl ]

-- what an action leaves of a connection
rests_one : (actor : Option ℕ) (events : List Event) (l : Listener) →
    conn_of (ended actor (queued actor events l)) ≡ rested actor events (conn_of l)
rests_one actor events l =
    ap (λ n. conn_of (ended_if (is_but actor n) (queued actor events l)))
    (queued_number actor events l)
    ∙ rests_if (is_but actor l.number) events l

rests_all : (actor : Option ℕ) (events : List Event) (ls : List Listener) →
    map conn_of (map (ended actor) (map (queued actor events) ls))
    ≡ map (rested actor events) (map conn_of ls)
rests_all actor events [] = refl
rests_all actor events (l ∷ ls) = rw (rests_one actor events l, rests_all actor events ls) refl

-- who is identified
masked_conn : (conn mask : ℕ) (l : Listener) →
    conn_of (with_mask conn mask l) ≡ conns.with_mask conn mask (conn_of l)
masked_conn conn mask l = elim (l.number == conn)
    as (λ b. conn_of (cond b (record l { mask = Some mask }) l)
    ≡ cond b (record (conn_of l) { mask = Some mask }) (conn_of l))
    [ true ↦ refl | false ↦ refl ]

masked_conns : (conn mask : ℕ) (ls : List Listener) →
    map conn_of (map (with_mask conn mask) ls) ≡ map (conns.with_mask conn mask) (map conn_of ls)
masked_conns conn mask [] = refl
masked_conns conn mask (l ∷ ls) = rw (masked_conn conn mask l, masked_conns conn mask ls) refl

-- whoever names a mask names a deaf one, and so far no outcome makes batches pend
abbrev pub IsDeafTo : Attendance → Type 0
IsDeafTo (conns.Identifies conn mask) = is_deaf mask ≡ true
IsDeafTo (conns.Pends conn batches) = ⊥
IsDeafTo _ = Unit {0}

-- who comes, goes, or is identified
attends : (a : Attendance) (ls : List Listener) → IsDeafTo a →
    map conn_of (attended a ls) ≡ attending a (map conn_of ls)
attends conns.Same ls deaf = refl
attends (conns.Joins conn challenge) ls deaf =
    map-append conn_of ls (new_listener conn challenge ∷ [])
attends (conns.Identifies conn mask) ls deaf = masked_conns conn mask ls
attends (conns.Leaves conn) ls deaf =
    sym (filter_under (λ c. not (is_conn conn c)) (is_other conn) conn_of (λ l. refl) ls)
attends (conns.Pends conn batches) ls deaf = absurd deaf

-- what an outcome leaves of the open connections is what the step leaves of those of the state
pub listens : (s : Mixer) (o : Outcome) (ls : List Listener) → IsDeafTo o.attendance →
    map conn_of (listening s o ls)
    ≡ map (rested (actor_of o.heading) (told_of s o)) (attending o.attendance (map conn_of ls))
listens s o ls deaf = rests_all (actor_of o.heading) (told_of s o) (attended o.attendance ls)
    ∙ ap (map (rested (actor_of o.heading) (told_of s o))) (attends o.attendance ls deaf)

-- ---- events of activity

-- an event on the activity or the showing of an input, which nobody is told yet
abbrev pub IsOfActivity : Event → Type 0
IsOfActivity (event.InputActiveStateChanged input serial active) = Unit {0}
IsOfActivity (event.InputShowStateChanged input serial showing) = Unit {0}
IsOfActivity _ = ⊥

change_is : (g : GraphState) (c : Change) → IsOfActivity (change_event g c)
change_is g (Active x now) = tt
change_is g (Showing x now) = tt

-- the events of the settling are such
pub settling_is : (old new : GraphState) → All IsOfActivity (settling_events old new)
settling_is old new = All-map IsOfActivity (change_event new) (told_changes old new)
    (λ k d within. change_is new (get_or (told_changes old new) k d))

-- who is deaf wants none
unwanted : (mask : Option ℕ) (e : Event) → IsDeafMask mask → IsOfActivity e →
    wants mask e ≡ false
unwanted None e deaf of = refl
unwanted (Some mask) (event.InputActiveStateChanged input serial active) deaf of =
    ap not (and_first (bit_and mask 131072 == 0) (bit_and mask 262144 == 0) deaf)
unwanted (Some mask) (event.InputShowStateChanged input serial showing) deaf of =
    ap not (and_second (bit_and mask 131072 == 0) (bit_and mask 262144 == 0) deaf)
unwanted (Some mask) e deaf of = absurd of

untaken : (cut b : Bool) → b ≡ false → (not cut && b) ≡ false
untaken true b is = refl
untaken false b is = is

-- so it takes none of them
unheard : (l : Listener) (rest : List Event) → IsDeafMask l.mask → All IsOfActivity rest →
    taken_of l rest ≡ []
unheard l [] deaf of = refl
unheard l (e ∷ rest) deaf of =
    ap (λ b. cond b (e ∷ taken_of l rest) (taken_of l rest))
    (untaken l.cut (wants l.mask e) (unwanted l.mask e deaf (All-head IsOfActivity e rest of)))
    ∙ unheard l rest deaf (All-tail IsOfActivity e rest of)

takes_heard : (l : Listener) (events rest : List Event) → IsDeafMask l.mask →
    All IsOfActivity rest → taken_of l (events ++ rest) ≡ taken_of l events
takes_heard l events rest deaf of = filter-append (audience.takes l.mask l.cut) events rest
    ∙ ap (λ t. taken_of l events ++ t) (unheard l rest deaf of) ∙ append-nil (taken_of l events)

-- the events of activity at the end wait for nobody
module _ (events rest : List Event) (of : All IsOfActivity rest) where
  queued_one : (actor : Option ℕ) (l : Listener) → IsListener l →
      queued actor (events ++ rest) l ≡ queued actor events l
  queued_one actor l is = ap (λ t. let m : Listener = cond (is_but actor l.number) l
      (record l { waiting = l.waiting ++ t }) in m) (takes_heard l events rest is.deaf of)

  pub queued_heard : (actor : Option ℕ) (ls : List Listener) → All IsListener ls →
      map (queued actor (events ++ rest)) ls ≡ map (queued actor events) ls
  queued_heard actor [] all = refl
  queued_heard actor (l ∷ ls) all = rw (
    queued_one actor l (All-head IsListener l ls all),
    queued_heard actor ls (All-tail IsListener l ls all),
  ) refl

  -- and nobody is told them
  pub taken_heard : (conn : ℕ) (ls : List Listener) → All IsListener ls →
      taken_by conn ls (events ++ rest) ≡ taken_by conn ls events
  taken_heard conn [] all = refl
  taken_heard conn (l ∷ ls) all = elim (is_listener conn l)
      as (λ b. option_map_or (λ m. taken_of m (events ++ rest))
      (cond b (Some l) (listener_at conn ls)) []
      ≡ option_map_or (λ m. taken_of m events) (cond b (Some l) (listener_at conn ls)) []) [
        | true ↦ takes_heard l events rest (All-head IsListener l ls all).deaf of
        | false ↦ taken_heard conn ls (All-tail IsListener l ls all)
      ]

-- ---- no events

queued_none_one : (actor : Option ℕ) (l : Listener) → queued actor [] l ≡ l
queued_none_one actor l = elim (is_but actor l.number) as (λ b. queued_if b [] l ≡ l) [
  | true ↦ refl
  | false ↦ ap (λ ws. let m : Listener = record l { waiting = ws } in m) (append-nil l.waiting)
]

pub queued_none : (actor : Option ℕ) (ls : List Listener) → map (queued actor []) ls ≡ ls
queued_none actor [] = refl
queued_none actor (l ∷ ls) = rw (queued_none_one actor l, queued_none actor ls) refl

pub taken_none : (found : Option Listener) →
    option_map_or (λ (l : Listener). taken_of l []) found [] ≡ []
taken_none None = refl
taken_none (Some l) = refl

-- ---- open connections stay as they should be

ended_one : (actor : Option ℕ) (l : Listener) → IsListener l → IsListener (ended actor l)
ended_one actor l is = elim (is_but actor l.number) as (λ b. IsListener (ended_if b l)) [
  | true ↦ record { deaf = is.deaf; sayable = All-nil IsSayableEvent }
  | false ↦ record { deaf = is.deaf; sayable = is.sayable }
]

taken_sayable : (l : Listener) (events : List Event) → All IsSayableEvent events →
    All IsSayableEvent (taken_of l events)
taken_sayable l events all = All-filter (audience.takes l.mask l.cut) IsSayableEvent events all

queued_sayable : (actor : Option ℕ) (events : List Event) (l : Listener) →
    All IsSayableEvent events → IsListener l → IsListener (queued actor events l)
queued_sayable actor events l all is = elim (is_but actor l.number)
    as (λ b. IsListener (queued_if b events l)) [
      | true ↦ is
      | false ↦ record {
        deaf = is.deaf;
        sayable = All-append IsSayableEvent l.waiting (taken_of l events) is.sayable
            (taken_sayable l events all);
      }
    ]

ended_all : (actor : Option ℕ) (events : List Event) (ls : List Listener) →
    All IsSayableEvent events → All IsListener ls →
    All IsListener (map (ended actor) (map (queued actor events) ls))
ended_all actor events ls sayable all = All-map IsListener (ended actor)
    (map (queued actor events) ls)
    (All-map (λ l. IsListener (ended actor l)) (queued actor events) ls (λ k d within.
    ended_one actor (queued actor events (get_or ls k d))
    (queued_sayable actor events (get_or ls k d) sayable (all k d within))))

masked_one : (conn mask : ℕ) (l : Listener) → is_deaf mask ≡ true → IsListener l →
    IsListener (with_mask conn mask l)
masked_one conn mask l deaf is = elim (is_listener conn l)
    as (λ b. IsListener (cond b (record l { mask = Some mask }) l)) [
      | true ↦ record { deaf = deaf; sayable = is.sayable }
      | false ↦ is
    ]

pub attended_all : (a : Attendance) (ls : List Listener) → IsDeafTo a → All IsListener ls →
    All IsListener (attended a ls)
attended_all (conns.Joins conn challenge) ls deaf all =
    All-push IsListener ls (new_listener conn challenge) all
    (record { deaf = tt; sayable = All-nil IsSayableEvent })
attended_all (conns.Identifies conn mask) ls deaf all = All-map IsListener (with_mask conn mask) ls
    (λ k d within. masked_one conn mask (get_or ls k d) deaf (all k d within))
attended_all (conns.Leaves conn) ls deaf all = All-filter (is_other conn) IsListener ls all
attended_all _ ls deaf all = all

-- what is told of an outcome waits for others as its own events alone would
pub told_heard : (s : Mixer) (o : Outcome) (ls : List Listener) → IsDeafTo o.attendance →
    All IsListener ls → listening s o ls ≡ map (ended (actor_of o.heading))
    (map (queued (actor_of o.heading) o.events) (attended o.attendance ls))
told_heard s o ls deaf all = ap (map (ended (actor_of o.heading)))
    (queued_heard o.events (settling_events s.studio.graph o.studio.graph)
    (settling_is s.studio.graph o.studio.graph) (actor_of o.heading) (attended o.attendance ls)
    (attended_all o.attendance ls deaf all))

pub listening_all : (s : Mixer) (o : Outcome) (ls : List Listener) → IsDeafTo o.attendance →
    All IsSayableEvent o.events → All IsListener ls → All IsListener (listening s o ls)
listening_all s o ls deaf sayable all = subst (All IsListener) (sym (told_heard s o ls deaf all))
    (ended_all (actor_of o.heading) o.events (attended o.attendance ls) sayable
    (attended_all o.attendance ls deaf all))

-- ---- what is told can be said

-- what waits for a connection can be said, and so can what it takes
pub heard_sayable : (conn : ℕ) (ls : List Listener) (events : List Event) → All IsListener ls →
    All IsSayableEvent events →
    All IsSayable (map OfEvent (waiting_for conn ls ++ taken_by conn ls events))
heard_sayable conn [] events all sayable = All-nil IsSayable
heard_sayable conn (l ∷ ls) events all sayable = elim (is_listener conn l)
    as (λ b. let found : Option Listener = cond b (Some l) (listener_at conn ls) in
    All IsSayable (map OfEvent (option_map_or (λ (k : Listener). k.waiting) found []
    ++ option_map_or (λ (k : Listener). taken_of k events) found []))) [
      | true ↦ All-map IsSayable OfEvent (l.waiting ++ taken_of l events)
          (All-append IsSayableEvent l.waiting (taken_of l events)
          (All-head IsListener l ls all).sayable (taken_sayable l events sayable))
      | false ↦ heard_sayable conn ls events (All-tail IsListener l ls all) sayable
    ]
