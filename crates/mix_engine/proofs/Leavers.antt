-- A connection that goes: what it held and watched is let go, and the others keep theirs.
use Rattle.std.proofs.Common.{◌≡◌, ◌∙◌, ℕ, ◌==◌, Bool, true, false, cond, not, ◌||◌, ◌&&◌, List, []}
use Rattle.std.proofs.Common.{◌∷◌, map, filter, All, refl}
use Rattle.std.proofs.Common.{sym, ap, subst, eq-eqb}
use Rattle.std.specs.List.{list_all}
use Rattle.std.proofs.lemmas.Bool.{false_from_ne_true, eqb-true}
use Rattle.std.proofs.lemmas.List.Elements.{All-cons, All-head, All-tail, All-nil}
use Rattle.mix_audience.specs.Listeners.{AudienceModel, ended, is_other}
use Rattle.mix_audience.proofs.Lists.{filter_under, map_same}
use Rattle.mix_events.specs.Sayable.{IsSayableEvent}
use Rattle.mix_events.specs.Sayings.{IsSayable}
use Rattle.mix_model.specs.declared.notes.Note.{Note}
use Rattle.mix_model.specs.declared.notes.Notes.{Notes}
use Rattle.mix_model.specs.Sets.{has, is_distinct}
use Rattle.mix_model.specs.Settle.{settle}
use Rattle.mix_model.specs.State.{GraphState, Hold, StudioState, Watch}
use Rattle.mix_model.specs.Studio.{studio_settled}
use Rattle.mix_model.specs.WholeShape.{StateShape, StudioShape, conn_numbers, hold_of, is_noted}
use Rattle.mix_model.specs.WholeShape.{watch_of}
use Rattle.mix_model.proofs.DistinctLemmas.{all_filter, filter_passes}
use Rattle.mix_model.proofs.DyingLemmas.{has_filter}
use Rattle.mix_model.proofs.SetLemmas.{all_imply, and_both, and_first, and_second}
use Rattle.mix_shape.proofs.SumLemmas.{all_both}
use Rattle.mix_studio.proofs.ShapeLemmas.{IsBeside}
use Rattle.mix_engine.specs.declared.heading.Heading.{Heading}
use Rattle.mix_engine.specs.Connections.{is_conn}
use Rattle.mix_engine.specs.Headings.{actor_of}
use Rattle.mix_model.specs.Edits.{let_go}
use Rattle.mix_engine.specs.Leaving.{goes, ids_of, is_of, notes_without, others_of}
use Rattle.mix_engine.specs.Leaving.{studio_without}
use Rattle.mix_engine.specs.Mixer.{Mixer, Connection}
use Rattle.mix_engine.specs.Mixings.{IsMixing, Mixed, mixed_of}
use Rattle.mix_engine.proofs.Listening.{queued_none}
use Rattle.mix_engine.proofs.Shapes.{IsFit, LeftBy, parts_left}

-- ---- the notes of the others

filter_same : {X : Type 0} (p q : X → Bool) (xs : List X) → All (λ x. p x ≡ q x) xs →
    filter p xs ≡ filter q xs
filter_same p q [] all = refl
filter_same {X} p q (x ∷ xs) all = rw (
  All-head (λ (y : X). p y ≡ q y) x xs all,
  filter_same p q xs (All-tail (λ (y : X). p y ≡ q y) x xs all),
) refl

other_way : (x y : ℕ) → (x == y) ≡ false → (y == x) ≡ false
other_way x y differ = false_from_ne_true (y == x)
    (λ e. let same : (x == y) ≡ true = eq-eqb x y (sym (eqb-true y x e)) in cc)

not_true : (b : Bool) → not b ≡ true → b ≡ false
not_true true is = cc
not_true false is = refl

neither : (a b : Bool) → (a || b) ≡ false → (a ≡ false) × (b ≡ false)
neither true b none = cc
neither false b none = (refl, none)

-- an id that no note has is none of those of a connection
absent_too : (conn x : ℕ) (notes : List Note) →
    has x (map (λ (n : Note). n.id) notes) ≡ false → has x (ids_of conn notes) ≡ false
absent_too conn x [] none = refl
absent_too conn x (note ∷ notes) none =
    let apart : ((note.id == x) ≡ false) × (has x (map (λ (n : Note). n.id) notes) ≡ false)
    = neither (note.id == x) (has x (map (λ (n : Note). n.id) notes)) none in
    let rest : has x (ids_of conn notes) ≡ false = absent_too conn x notes apart.1 in
    elim (is_of conn note) as (λ b. has x (map (λ (n : Note). n.id)
    (cond b (note ∷ filter (is_of conn) notes) (filter (is_of conn) notes))) ≡ false)
    [ true ↦ rw (apart.0, rest) refl | false ↦ rest ]

-- each of the others has another id
apart_all : (x : ℕ) (ids : List ℕ) (notes : List Note) →
    has x (map (λ (n : Note). n.id) notes) ≡ false →
    All (λ (n : Note). not (has n.id (x ∷ ids)) ≡ not (has n.id ids)) notes
apart_all x ids [] none = All-nil (λ (n : Note). not (has n.id (x ∷ ids)) ≡ not (has n.id ids))
apart_all x ids (note ∷ notes) none =
    let apart : ((note.id == x) ≡ false) × (has x (map (λ (n : Note). n.id) notes) ≡ false)
    = neither (note.id == x) (has x (map (λ (n : Note). n.id) notes)) none in
    All-cons (λ (n : Note). not (has n.id (x ∷ ids)) ≡ not (has n.id ids)) note notes
    (ap (λ b. not (b || has note.id ids)) (other_way note.id x apart.0))
    (apart_all x ids notes apart.1)

-- the notes without the ids of a connection are those of the others
others_are : (conn : ℕ) (notes : List Note) →
    is_distinct (map (λ (n : Note). n.id) notes) ≡ true →
    filter (λ (n : Note). not (has n.id (ids_of conn notes))) notes ≡ others_of conn notes
others_are conn [] once = refl
others_are conn (note ∷ notes) once =
    let none : has note.id (map (λ (n : Note). n.id) notes) ≡ false
    = not_true (has note.id (map (λ (n : Note). n.id) notes)) (and_first _ _ once) in
    let rest : filter (λ (n : Note). not (has n.id (ids_of conn notes))) notes
    ≡ others_of conn notes = others_are conn notes (and_second _ _ once) in
    elim (is_of conn note) as (λ b. filter (λ (n : Note). not (has n.id (map (λ (k : Note). k.id)
    (cond b (note ∷ filter (is_of conn) notes) (filter (is_of conn) notes))))) (note ∷ notes)
    ≡ cond (not b) (note ∷ others_of conn notes) (others_of conn notes)) [
      | true ↦ rw (eq-eqb note.id note.id refl)
          (filter_same (λ (n : Note). not (has n.id (note.id ∷ ids_of conn notes)))
          (λ (n : Note). not (has n.id (ids_of conn notes))) notes
          (apart_all note.id (ids_of conn notes) notes none) ∙ rest)
      | false ↦ rw (absent_too conn note.id notes none, rest) refl
    ]

-- ---- they are of connections that are open still

pub others_open : (conn : ℕ) (conns : List Connection) (notes : List Note) →
    list_all (is_noted (conn_numbers conns)) notes ≡ true →
    list_all (is_noted (conn_numbers (filter (λ c. not (is_conn conn c)) conns)))
    (others_of conn notes) ≡ true
others_open conn conns notes noted = all_imply
    (λ (n : Note). is_noted (conn_numbers conns) n && not (is_of conn n))
    (is_noted (conn_numbers (filter (λ c. not (is_conn conn c)) conns))) (λ note is.
    ap (has note.conn) (sym (filter_under (λ x. not (x == conn)) (λ c. not (is_conn conn c))
    (λ (c : Connection). c.number) (λ c. refl) conns))
    ∙ has_filter (λ x. not (x == conn)) note.conn (conn_numbers conns)
    ∙ and_both (not (is_of conn note)) (has note.conn (conn_numbers conns))
    (and_second (is_noted (conn_numbers conns) note) (not (is_of conn note)) is)
    (and_first (is_noted (conn_numbers conns) note) (not (is_of conn note)) is))
    (others_of conn notes)
    (all_both (is_noted (conn_numbers conns)) (λ n. not (is_of conn n)) (others_of conn notes)
    (all_filter (is_noted (conn_numbers conns)) (λ n. not (is_of conn n)) notes noted)
    (filter_passes (λ n. not (is_of conn n)) notes))

-- ---- what is left of holds and watches

left_of : {X : Type 0} (of : Note → X) (id : X → ℕ) → ((n : Note) → id (of n) ≡ n.id) →
    (conn : ℕ) (notes : List Note) (xs : List X) → map of notes ≡ xs →
    is_distinct (map id xs) ≡ true → map of (others_of conn notes)
    ≡ filter (λ (x : X). not (has (id x) (ids_of conn notes))) xs
left_of {X} of id same conn notes xs are once = ap (map of) (sym (others_are conn notes
    (subst (λ ids. is_distinct ids ≡ true)
    (ap (map id) (sym are) ∙ map_same id of (λ (n : Note). n.id) same notes) once)))
    ∙ sym (filter_under (λ (x : X). not (has (id x) (ids_of conn notes)))
    (λ (n : Note). not (has n.id (ids_of conn notes))) of
    (λ n. ap (λ k. not (has k (ids_of conn notes))) (same n)) notes)
    ∙ ap (filter (λ (x : X). not (has (id x) (ids_of conn notes)))) are

module _ (s : Mixer) (shape : StateShape s) (conn : ℕ) where
  holds_left : map hold_of (notes_without conn s.notes).holds
      ≡ (studio_without conn s.notes s.studio).graph.holds
  unfolding studio_settled settle let_go
  holds_left = left_of hold_of (λ (h : Hold). h.id) (λ n. refl) conn s.notes.holds
      s.studio.graph.holds shape.holds_noted
      (and_first _ _ shape.studio.sources.parts.beside.holds.hold_ids)

  watches_left : map watch_of (notes_without conn s.notes).watches
      ≡ (studio_without conn s.notes s.studio).graph.watches
  unfolding studio_settled settle let_go
  watches_left = left_of watch_of (λ (w : Watch). w.id) (λ n. refl) conn s.notes.watches
      s.studio.graph.watches shape.watches_noted
      (and_first _ _ shape.studio.sources.parts.beside.watches.watch_ids)

  -- what a connection that goes leaves
  pub gone_fit : (reply : Heading) → StudioShape (studio_without conn s.notes s.studio) →
      IsFit s (goes s conn reply)
  gone_fit reply studio = record {
    studio = studio;
    attends = refl;
    deaf = tt;
    sayable = All-nil IsSayableEvent;
    said = All-nil IsSayable;
    holds = holds_left;
    watches = watches_left;
    holds_open = others_open conn s.conns s.notes.holds shape.holds_open;
    watches_open = others_open conn s.conns s.notes.watches shape.watches_open;
  }

-- the parts, once it is gone
pub gone_left : {m : Mixed} → IsMixing m → (conn : ℕ) (reply : Heading) {studio : StudioState}
    {notes : Notes} (a : AudienceModel) → StudioShape studio →
    studio ≡ studio_without conn m.mixer.notes m.mixer.studio →
    notes ≡ notes_without conn m.mixer.notes → a.secret ≡ m.mixer.secret →
    a.listeners ≡ map (ended (actor_of reply)) (filter (is_other conn) m.listeners) →
    LeftBy m (goes m.mixer conn reply) (mixed_of studio notes a m.mixer.next_conn)
gone_left {m} mixing conn reply a shape studio_is notes_are knows is =
    parts_left mixing (goes m.mixer conn reply)
    (gone_fit m.mixer mixing.shape conn reply (subst StudioShape studio_is shape)) a studio_is
    notes_are refl knows (is ∙ ap (map (ended (actor_of reply)))
    (sym (queued_none (actor_of reply) (filter (is_other conn) m.listeners))))

-- ---- an edit that lets go leaves channels, frames in flight and the clock

pub let_go_beside : (holds watches : List ℕ) (g : GraphState) →
    IsBeside g (let_go holds watches g)
unfolding let_go
let_go_beside holds watches g = record { channels = refl; frames = refl; clock = refl }
