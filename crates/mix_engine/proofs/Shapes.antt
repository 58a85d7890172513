-- What an outcome leaves has the shape of every state, and what it leaves is what the code has.
use Rattle.std.proofs.Common.{◌≡◌, ◌∙◌, ℕ, ◌+◌, ◌<◌, Bool, true, false, cond, ◌||◌, ◌==◌, not}
use Rattle.std.proofs.Common.{List, [], ◌∷◌, ◌++◌, length, map, All, Some, Option, is_some}
use Rattle.std.proofs.Common.{refl, sym, ap, subst, arith, nat_le, nat_lt, le-leb, ltb-true}
use Rattle.std.specs.List.{list_all}
use Rattle.std.proofs.lemmas.Bool.Decides.{nat_tests}
use Rattle.std.proofs.lemmas.List.{length-append, length-map, map-append}
use Rattle.std.proofs.lemmas.List.Folds.{list_any-append}
use Rattle.mix_audience.specs.Listeners.{AudienceModel, Listener, ended, is_listener, listener_at}
use Rattle.mix_audience.specs.Listeners.{queued}
use Rattle.mix_audience.proofs.Lists.{map_same}
use Rattle.mix_events.specs.Sayable.{IsSayableEvent}
use Rattle.mix_events.specs.Sayings.{IsSayable}
use Rattle.mix_fanout.specs.Lanes.{is_but}
use Rattle.mix_model.specs.declared.event.Event.{Event}
use Rattle.mix_model.specs.declared.notes.Note.{Note}
use Rattle.mix_model.specs.declared.notes.Notes.{Notes}
use Rattle.mix_model.specs.Sets.{has}
use Rattle.mix_model.specs.Shape.{ids_below}
use Rattle.mix_model.specs.State.{StudioState}
use Rattle.mix_model.specs.WholeShape.{StateShape, StudioShape, conn_numbers, hold_of, watch_of}
use Rattle.mix_model.specs.WholeShape.{is_connection, is_noted}
use Rattle.mix_model.proofs.SetLemmas.{all_imply, and_both, or_left, or_right}
use Rattle.mix_shape.proofs.GrownShape.{filter_length, ids_fewer, ids_more}
use Rattle.mix_engine.specs.Connections as att
use Rattle.mix_engine.specs.Connections.{Attendance, attending, is_conn, new_conn}
use Rattle.mix_engine.specs.Headings.{actor_of, is_unbuilt}
use Rattle.mix_engine.specs.Mixer.{Mixer, Connection}
use Rattle.mix_engine.specs.Mixings.{IsMixing, Mixed, attended, conn_of, listening, mixed_after}
use Rattle.mix_engine.specs.Mixings.{mixed_of}
use Rattle.mix_engine.specs.Outcomes.{Outcome, told_of}
use Rattle.mix_engine.specs.Step.{rested}
use Rattle.mix_engine.proofs.Listening.{IsDeafTo, ended_if, listening_all, listens, rested_if}
use Rattle.mix_engine.proofs.Listening.{told_heard}

-- ---- the numbers of the open connections

abbrev pub numbers_of : List Listener → List ℕ
numbers_of ls = map (λ (l : Listener). l.number) ls

pub numbers_same : (ls : List Listener) → conn_numbers (map conn_of ls) ≡ numbers_of ls
numbers_same ls = map_same (λ (c : Connection). c.number) conn_of
    (λ (l : Listener). l.number) (λ l. refl) ls

-- a connection is open where it has a listener
pub found_as : (n : ℕ) (ls : List Listener) → is_some (listener_at n ls) ≡ has n (numbers_of ls)
found_as n [] = refl
found_as n (l ∷ ls) = elim (is_listener n l)
    as (λ b. is_some (cond b (Some l) (listener_at n ls)) ≡ (b || has n (numbers_of ls)))
    [ true ↦ refl | false ↦ found_as n ls ]

-- telling changes no number, and a mask changes none
rested_numbers : (actor : Option ℕ) (events : List Event) (cs : List Connection) →
    conn_numbers (map (rested actor events) cs) ≡ conn_numbers cs
rested_numbers actor events cs = map_same (λ (c : Connection). c.number) (rested actor events)
    (λ (c : Connection). c.number) (λ c. elim (is_but actor c.number)
    as (λ b. (rested_if b events c).number ≡ c.number) [ true ↦ refl | false ↦ refl ]) cs

masked_numbers : (conn mask : ℕ) (cs : List Connection) →
    conn_numbers (map (att.with_mask conn mask) cs) ≡ conn_numbers cs
masked_numbers conn mask cs = map_same (λ (c : Connection). c.number) (att.with_mask conn mask)
    (λ (c : Connection). c.number) (λ c. elim (is_conn conn c)
    as (λ b. (let k : Connection = cond b (record c { mask = Some mask }) c in k.number) ≡ c.number)
    [ true ↦ refl | false ↦ refl ]) cs

-- ---- each connection keeps its limits

enough : (cut : Bool) (n : ℕ) → ((cut || nat_le 4096 n) || nat_lt n 4096) ≡ true
enough true n = refl
enough false n = grind (arith, nat_tests)

kept_one : (b : Bool) (l : Listener) → is_connection (conn_of (ended_if b l)) ≡ true
kept_one true l = or_right l.cut true refl
kept_one false l = enough l.cut (length l.waiting)

-- at the end of an action few texts wait for a connection that isn't cut
kept_all : (actor : Option ℕ) (ls : List Listener) →
    list_all is_connection (map conn_of (map (ended actor) ls)) ≡ true
kept_all actor [] = refl
kept_all actor (l ∷ ls) = and_both _ _ (kept_one (is_but actor l.number) l) (kept_all actor ls)

-- ---- what an outcome has to meet

-- who comes has the next number, and there is room; else no number is given
abbrev pub Attends : Mixer → Attendance → ℕ → Type 0
Attends s (att.Joins conn challenge) next = (conn ≡ s.next_conn) × (next ≡ s.next_conn + 1)
    × (nat_lt (length s.conns) 64 ≡ true)
Attends s (att.Pends conn batches) next = ⊥
Attends s _ next = next ≡ s.next_conn

pub record IsFit (s : Mixer) (o : Outcome) : Type 0 where
  pub studio : StudioShape o.studio
  pub attends : Attends s o.attendance o.next_conn
  pub deaf : IsDeafTo o.attendance
  pub sayable : All IsSayableEvent o.events
  pub said : All IsSayable o.said
  pub holds : map hold_of o.notes.holds ≡ o.studio.graph.holds
  pub watches : map watch_of o.notes.watches ≡ o.studio.graph.watches
  pub holds_open :
      list_all (is_noted (conn_numbers (attending o.attendance s.conns))) o.notes.holds ≡ true
  pub watches_open :
      list_all (is_noted (conn_numbers (attending o.attendance s.conns))) o.notes.watches ≡ true

-- whoever is open stays so, with the batches that it has
abbrev pub Stay : Attendance → Type 0
Stay (att.Leaves conn) = ⊥
Stay (att.Pends conn batches) = ⊥
Stay _ = Unit {0}

-- so notes are of open connections still
noted_on : (s : Mixer) (a : Attendance) → Stay a → (notes : List Note) →
    list_all (is_noted (conn_numbers s.conns)) notes ≡ true →
    list_all (is_noted (conn_numbers (attending a s.conns))) notes ≡ true
noted_on s (att.Joins conn challenge) stay notes noted = all_imply
    (is_noted (conn_numbers s.conns))
    (is_noted (conn_numbers (s.conns ++ new_conn conn challenge ∷ []))) (λ note here.
    ap (has note.conn) (map-append (λ (c : Connection). c.number) s.conns
    (new_conn conn challenge ∷ []))
    ∙ list_any-append (λ z. z == note.conn) (conn_numbers s.conns) (conn ∷ []) ∙ or_left _ _ here)
    notes noted
noted_on s (att.Identifies conn mask) stay notes noted = subst
    (λ ids. list_all (is_noted ids) notes ≡ true) (sym (masked_numbers conn mask s.conns)) noted
noted_on s att.Same stay notes noted = noted
noted_on s _ stay notes noted = absurd stay

-- what leaves notes, and holds and watches with them, fits then
pub kept_fit : {s : Mixer} → StateShape s → (o : Outcome) → StudioShape o.studio →
    Attends s o.attendance o.next_conn → IsDeafTo o.attendance → Stay o.attendance →
    All IsSayableEvent o.events → All IsSayable o.said → o.notes ≡ s.notes →
    o.studio.graph.holds ≡ s.studio.graph.holds → o.studio.graph.watches ≡ s.studio.graph.watches →
    IsFit s o
kept_fit {s} shape o studio is deaf stay sayable said noted held watched = record {
  studio = studio;
  attends = is;
  deaf = deaf;
  sayable = sayable;
  said = said;
  holds = rw (noted, held) shape.holds_noted;
  watches = rw (noted, watched) shape.watches_noted;
  holds_open = rw noted (noted_on s o.attendance stay s.notes.holds shape.holds_open);
  watches_open = rw noted (noted_on s o.attendance stay s.notes.watches shape.watches_open);
}

-- ---- the connections after it

attending_ids : (s : Mixer) (a : Attendance) (next : ℕ) → Attends s a next →
    ids_below s.next_conn (conn_numbers s.conns) ≡ true →
    ids_below next (conn_numbers (attending a s.conns)) ≡ true
attending_ids s (att.Joins conn challenge) next is ids = rw (
  is.1,
  map-append (λ (c : Connection). c.number) s.conns (new_conn conn challenge ∷ []),
  is.0,
) (ids_more s.next_conn (conn_numbers s.conns) ids)
attending_ids s (att.Identifies conn mask) next is ids =
    rw (is, masked_numbers conn mask s.conns) ids
attending_ids s (att.Leaves conn) next is ids = rw is (ids_fewer (λ (c : Connection). c.number)
    (λ c. not (is_conn conn c)) s.next_conn s.conns ids)
attending_ids s att.Same next is ids = rw is ids
attending_ids s (att.Pends conn batches) next is ids = absurd is

attending_few : (s : Mixer) (a : Attendance) (next : ℕ) → Attends s a next →
    nat_le (length s.conns) 64 ≡ true → nat_le (length (attending a s.conns)) 64 ≡ true
attending_few s (att.Joins conn challenge) next is few =
    let room : length s.conns < 64 = ltb-true (length s.conns) 64 is.2 in
    le-leb (length (s.conns ++ new_conn conn challenge ∷ [])) 64
    (omega (arith, length-append s.conns (new_conn conn challenge ∷ [])))
attending_few s (att.Identifies conn mask) next is few =
    rw (length-map s.conns (att.with_mask conn mask)) few
attending_few s (att.Leaves conn) next is few =
    filter_length (λ c. not (is_conn conn c)) 64 s.conns few
attending_few s att.Same next is few = few
attending_few s (att.Pends conn batches) next is few = absurd is

-- ---- the whole after it

-- what an outcome leaves that is built
abbrev pub left_by : Mixed → Outcome → Mixed
left_by m o = record {
  mixer = record m.mixer {
    studio = o.studio;
    notes = o.notes;
    conns = map (rested (actor_of o.heading) (told_of m.mixer o))
        (attending o.attendance m.mixer.conns);
    next_conn = o.next_conn;
  };
  listeners = listening m.mixer o m.listeners;
}

pub built_after : (m : Mixed) (o : Outcome) → is_unbuilt o.heading ≡ false →
    mixed_after m o ≡ left_by m o
built_after m o built = rw built refl

module _ (m : Mixed) (o : Outcome) (mixing : IsMixing m) (fit : IsFit m.mixer o) where
  conns_after : map (rested (actor_of o.heading) (told_of m.mixer o))
      (attending o.attendance m.mixer.conns) ≡ map conn_of (listening m.mixer o m.listeners)
  conns_after = ap (λ cs. map (rested (actor_of o.heading) (told_of m.mixer o))
      (attending o.attendance cs)) mixing.conns
      ∙ sym (listens m.mixer o m.listeners fit.deaf)

  shape_after : StateShape (left_by m o).mixer
  shape_after =
      let there : List Connection = attending o.attendance m.mixer.conns in
      let same : conn_numbers (map (rested (actor_of o.heading) (told_of m.mixer o)) there)
      ≡ conn_numbers there = rested_numbers (actor_of o.heading) (told_of m.mixer o) there in
      record {
        studio = fit.studio;
        conn_ids = subst (λ ids. ids_below o.next_conn ids ≡ true) (sym same)
            (attending_ids m.mixer o.attendance o.next_conn fit.attends mixing.shape.conn_ids);
        few_conns = rw (length-map there (rested (actor_of o.heading) (told_of m.mixer o)))
            (attending_few m.mixer o.attendance o.next_conn fit.attends mixing.shape.few_conns);
        conns = subst (λ cs. list_all is_connection cs ≡ true) (sym conns_after)
            (kept_all (actor_of o.heading) (map (queued (actor_of o.heading) (told_of m.mixer o))
            (attended o.attendance m.listeners)));
        holds_noted = fit.holds;
        watches_noted = fit.watches;
        holds_open = subst (λ ids. list_all (is_noted ids) o.notes.holds ≡ true) (sym same)
            fit.holds_open;
        watches_open = subst (λ ids. list_all (is_noted ids) o.notes.watches ≡ true) (sym same)
            fit.watches_open;
      }

  -- and is as a mixer should be
  pub mixing_left : IsMixing (left_by m o)
  mixing_left = record {
    shape = shape_after;
    conns = conns_after;
    listeners = listening_all m.mixer o m.listeners fit.deaf fit.sayable mixing.listeners;
  }

-- what is left is what an outcome leaves that fits
pub record LeftBy (m : Mixed) (o : Outcome) (new : Mixed) : Type 0 where
  pub fit : IsFit m.mixer o
  pub is : new ≡ left_by m o

-- so it is as a mixer should be
pub sound : {m : Mixed} {o : Outcome} {new : Mixed} → IsMixing m → LeftBy m o new → IsMixing new
sound {m} {o} {new} mixing left = subst IsMixing (sym left.is) (mixing_left m o mixing left.fit)

-- the parts that are as an outcome says are what it leaves
pub parts_left : {m : Mixed} → IsMixing m → (o : Outcome) → IsFit m.mixer o →
    {studio : StudioState} {notes : Notes} {n : ℕ} (a : AudienceModel) → studio ≡ o.studio →
    notes ≡ o.notes → n ≡ o.next_conn → a.secret ≡ m.mixer.secret →
    a.listeners ≡ map (ended (actor_of o.heading))
    (map (queued (actor_of o.heading) o.events) (attended o.attendance m.listeners)) →
    LeftBy m o (mixed_of studio notes a n)
parts_left {m} mixing o fit {studio} {notes} {n} a studio_is notes_are next_is secret is =
    let heard : a.listeners ≡ listening m.mixer o m.listeners =
    is ∙ sym (told_heard m.mixer o m.listeners fit.deaf mixing.listeners) in
    let there : map conn_of a.listeners ≡ map (rested (actor_of o.heading) (told_of m.mixer o))
    (attending o.attendance m.mixer.conns) =
    ap (map conn_of) heard ∙ sym (conns_after m o mixing fit) in
    record { fit = fit; is = cc }
