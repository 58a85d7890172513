-- A frame in flight holds rows that were held: it keeps what holds of the sources, and so does its
-- end. Where rows, activity and holders stay, the settling changes nothing.
use Rattle.std.proofs.Common.{◌≡◌, ℕ, ◌<◌, Bool, true, false, cond, not, ◌&&◌, ◌||◌, List, [], ◌∷◌}
use Rattle.std.proofs.Common.{◌++◌, map, filter, find, Some, refl, sym, ap, ◌∙◌, arith, ◌==◌}
use Rattle.std.proofs.Common.{eq-eqb, append-nil, zero, suc, ◌+◌, length, Option, None, nat_lt}
use Rattle.std.proofs.Common.{flat_map, inl, inr}
use Rattle.std.specs.Option.{option_map_or}
use Rattle.std.specs.List.{list_all, list_any}
use Rattle.std.proofs.lemmas.Bool.{ltb-true, ne_eqb}
use Rattle.std.proofs.lemmas.List.Folds.{list_any-append, list_all-append}
use Rattle.mix_model.specs.declared.row.Row.{Row}
use Rattle.mix_model.specs.Sets.{has, agree, rises_above, is_distinct}
use Rattle.mix_model.specs.Rows.{is_at, serials_of, is_visible, shows, visible_children_of}
use Rattle.mix_model.specs.State.{GraphState, Frame, Channel}
use Rattle.mix_model.specs.Lookups.{is_row, named_by, channel_roots, find_row, visible_in}
use Rattle.mix_model.specs.Holders.{is_held, names, shows_some, lists}
use Rattle.mix_model.specs.Walks.{is_active, active_rows, leads, is_walked}
use Rattle.mix_model.specs.Settle.{settle, with_since, since_before, newly_dying}
use Rattle.mix_model.specs.Edits.{frame_held, frame_released}
use Rattle.mix_model.specs.Shape.{GraphShape, BesideFits, are_rows}
use Rattle.mix_model.proofs.SetLemmas.{and_first, and_second, or_imply, and_both, any_member}
use Rattle.mix_model.proofs.SetLemmas.{or_cases}
use Rattle.std.proofs.lemmas.List.{map-append}
use Rattle.mix_model.specs.declared.item.Item.{Item}
use Rattle.mix_model.specs.Causes.{frame_cause}
use Rattle.mix_model.specs.EditedShape.{EditedShape}
use Rattle.mix_model.proofs.DyingLemmas.{has_filter}
use Rattle.mix_model.proofs.DistinctLemmas.{distinct_append, distinct_filter, rises_distinct}
use Rattle.mix_model.proofs.DistinctLemmas.{serials_there, all_filter}
use Rattle.mix_shape.proofs.SumLemmas.{any_kept, any_last, found_any}
use Rattle.mix_shape.proofs.ThinnerLemmas.{channel_holds, item_holds, hold_holds, frame_holds}
use Rattle.mix_shape.proofs.BesideShape.{beside_shape}
use Rattle.mix_shape.proofs.GrownShape.{no_cause, times_fewer, filter_length}
use Rattle.mix_shape.proofs.HoldShape.{length_more, held_on}

-- rows whose serials rise are found by their serials
sinces_stand : (f : ℕ → ℕ) (m : ℕ) (rows : List Row) → rises_above m (serials_of rows) ≡ true →
    ((x : ℕ) → m < x → f x ≡ option_map_or (λ (r : Row). r.since) (find (is_at x) rows) 0) →
    map (λ (r : Row). record r { since = f r.serial }) rows ≡ rows
sinces_stand f m [] rise same = refl
sinces_stand f m (r ∷ rows) rise same =
    let above : m < r.serial = ltb-true m r.serial (and_first _ _ rise) in
    let here : f r.serial ≡ r.since = same r.serial above
    ∙ ap (λ b. option_map_or (λ (s : Row). s.since) (cond b (Some r) (find (is_at r.serial) rows)) 0)
    (eq-eqb r.serial r.serial refl) in
    ap (λ n. record r { since = n } ∷ map (λ (s : Row). record s { since = f s.serial }) rows) here
    ∙ ap (λ rs. r ∷ rs) (sinces_stand f r.serial rows (and_second _ _ rise) (λ x later.
    same x (omega (arith, above, later))
    ∙ ap (λ b. option_map_or (λ (s : Row). s.since) (cond b (Some r) (find (is_at x) rows)) 0)
    (ne_eqb r.serial x (λ same. omega (arith, same, later)))))

-- a row that was active stays so, and none becomes it
since_same : (a : Bool) (c d : ℕ) → cond (a && not a) c d ≡ d
since_same true c d = refl
since_same false c d = refl

map_same : (f h : Row → Row) → ((r : Row) → f r ≡ h r) → (rows : List Row) → map f rows ≡ map h rows
map_same f h same [] = refl
map_same f h same (r ∷ rows) = rw (same r, map_same f h same rows) refl

-- what is held later is no less, so nothing begins to die
stays : (h l d : Bool) → (h ≡ true → l ≡ true) → agree d (not h) ≡ true →
    (not l && not d) ≡ false
stays true l d more was = rw (more refl) refl
stays false true d more was = refl
stays false false true more was = refl
stays false false false more was = cc

pub none_die : (held later dies : ℕ → Bool) → ((x : ℕ) → held x ≡ true → later x ≡ true) →
    (rows : List Row) → list_all (λ r. agree (dies r.serial) (not (held r.serial))) rows ≡ true →
    filter (λ x. not (later x) && not (dies x)) (serials_of rows) ≡ []
none_die held later dies more [] all = refl
none_die held later dies more (r ∷ rows) all =
    ap (λ b. cond b (r.serial ∷ filter (λ x. not (later x) && not (dies x)) (serials_of rows))
    (filter (λ x. not (later x) && not (dies x)) (serials_of rows)))
    (stays (held r.serial) (later r.serial) (dies r.serial) (more r.serial) (and_first _ _ all))
    ∙ none_die held later dies more rows (and_second _ _ all)

-- the sources with these rows, and these that die
abbrev with_parts : GraphState → List Row → List ℕ → GraphState
with_parts h rows dying = record h { rows = rows; dying = dying }

pub settles_still : (g h : GraphState) → GraphShape g → h.rows ≡ g.rows → h.dying ≡ g.dying →
    ((x : ℕ) → is_active h x ≡ is_active g x) →
    ((x : ℕ) → is_held g x ≡ true → is_held h x ≡ true) → settle g h ≡ h
unfolding settle newly_dying with_since
settles_still g h shape rows dying active held =
    let kept : map (with_since g h) h.rows ≡ h.rows =
    ap (map (with_since g h)) rows
    ∙ map_same (with_since g h) (λ (r : Row). record r { since = since_before g r.serial })
    (λ r. ap (λ n. record r { since = n })
    (ap (λ b. cond (b && not (is_active g r.serial)) h.clock (since_before g r.serial))
    (active r.serial)
    ∙ since_same (is_active g r.serial) h.clock (since_before g r.serial))) g.rows
    ∙ sinces_stand (since_before g) 0 g.rows shape.parts.rows.serials_rise (λ x above. refl)
    ∙ sym rows in
    let none : newly_dying h ≡ [] =
    ap (λ rs. filter (λ x. not (is_held h x) && not (has x h.dying)) (serials_of rs)) rows
    ∙ ap (λ ds. filter (λ x. not (is_held h x) && not (has x ds)) (serials_of g.rows)) dying
    ∙ none_die (is_held g) (is_held h) (λ x. has x g.dying) held g.rows shape.dying_unheld in
    ap (λ rs. with_parts h rs (h.dying ++ newly_dying h)) kept
    ∙ ap (λ ds. with_parts h h.rows (h.dying ++ ds)) none
    ∙ ap (with_parts h h.rows) (append-nil h.dying)

any_children : (c : ℕ) (items : List Item) →
    has c (map (λ i. i.child) items) ≡ list_any (shows c) items
any_children c [] = refl
any_children c (i ∷ items) = ap (λ b. (i.child == c) || b) (any_children c items)

-- what a visible item shows, an item shows
visible_shown : (c : ℕ) (items : List Item) →
    has c (map (λ i. i.child) (filter is_visible items)) ≡ true →
    list_any (shows c) items ≡ true
visible_shown c items h =
    any_kept (shows c) is_visible items (sym (any_children c (filter is_visible items)) ∙ h)

child_shown : (rows : List Row) (from c : ℕ) (o : Option Row) → find_row rows from ≡ o →
    has c (option_map_or visible_children_of o []) ≡ true → list_any (shows_some c) rows ≡ true
child_shown rows from c None found h = cc
child_shown rows from c (Some r) found h =
    found_any (is_at from) (shows_some c) rows r found (visible_shown c r.items h)

-- what a walk from a held row leads to is held
walked_held : (g : GraphState) (n from to : ℕ) → is_held g from ≡ true →
    leads (visible_in g.rows) n from to ≡ true → is_held g to ≡ true
walked_held g zero from to held walk = held_on g from to held walk
walked_held g (suc n) from to held walk = elim (or_cases _ _ walk) [
  | inl same ↦ held_on g from to held same
  | inr more ↦
      let next = any_member (λ x. leads (visible_in g.rows) n x to) (visible_in g.rows from) more in
      walked_held g n next.0 to
      (item_holds g next.0 (child_shown g.rows from next.0 (find_row g.rows from) refl next.1))
      next.2
]

roots_named : (x : ℕ) (channels : List Channel) → has x (flat_map named_by channels) ≡ true →
    list_any (names x) channels ≡ true
roots_named x [] h = h
roots_named x (c ∷ channels) h =
    or_imply _ _ _ _ (λ a. a) (roots_named x channels)
    (sym (list_any-append (λ y. y == x) (named_by c) (flat_map named_by channels)) ∙ h)

-- an active row is held
pub active_held : (g : GraphState) (x : ℕ) → is_active g x ≡ true → is_held g x ≡ true
unfolding is_active
active_held g x active =
    let root = any_member (λ r. is_walked g r x) (channel_roots g) (and_second _ _ active) in
    walked_held g 17 root.0 x (channel_holds g root.0 (roots_named root.0 g.channels root.1)) root.2

any_number : (number : ℕ) (frames : List Frame) →
    has number (map (λ f. f.number) frames) ≡ list_any (λ f. f.number == number) frames
any_number number [] = refl
any_number number (f ∷ frames) =
    ap (λ b. (f.number == number) || b) (any_number number frames)

-- a frame more, of the active rows
pub frame_held_shape : (number : ℕ) (g : GraphState) → GraphShape g → frame_cause g ≡ None →
    not (list_any (λ f. f.number == number) g.frames) ≡ true →
    EditedShape (frame_held number g)
unfolding frame_held frame_cause
frame_held_shape number g shape none fresh =
    let b : BesideFits g = shape.parts.beside in
    let first = no_cause (nat_lt 4 (length g.frames + 1)) _ _ none in
    let new : Frame = record { number = number; serials = active_rows g } in
    let frames : List Frame = g.frames ++ new ∷ [] in
    beside_shape g g.channels g.preview g.holds g.watches frames g.clock g.next_hold g.next_watch
    shape
    (channel_holds g) (hold_holds g) (λ y. any_last (lists y) g.frames new (is_held g y ≡ true) (frame_holds g y)
    (λ here. active_held g y (and_first _ _
    (sym (has_filter (is_active g) y (serials_of g.rows)) ∙ here))))
    b.channels b.preview_scene b.holds b.watches
    (record {
      frame_numbers = ap is_distinct (map-append (λ (f : Frame). f.number) g.frames (new ∷ []))
          ∙ distinct_append (map (λ (f : Frame). f.number) g.frames) (number ∷ [])
          b.frames.frame_numbers refl
          (and_both _ _ (ap not (any_number number g.frames) ∙ fresh) refl);
      frames_rows = list_all-append (λ (f : Frame). are_rows g f.serials) g.frames (new ∷ [])
          ∙ and_both _ _ b.frames.frames_rows (and_both _ _
          (all_filter (is_row g) (is_active g) (serials_of g.rows) (serials_there g.rows)) refl);
      frames_once = list_all-append (λ (f : Frame). is_distinct f.serials) g.frames (new ∷ [])
          ∙ and_both _ _ b.frames.frames_once (and_both _ _
          (distinct_filter (is_active g) (serials_of g.rows)
          (rises_distinct 0 (serials_of g.rows) shape.parts.rows.serials_rise)) refl);
      few_frames = length_more g.frames new 4 first.0;
    })

pub frame_released_shape : (number : ℕ) (g : GraphState) → GraphShape g →
    EditedShape (frame_released number g)
unfolding frame_released
frame_released_shape number g shape =
    let b : BesideFits g = shape.parts.beside in
    let kept : Frame → Bool = λ f. not (f.number == number) in
    beside_shape g g.channels g.preview g.holds g.watches (filter kept g.frames) g.clock
    g.next_hold g.next_watch shape
    (channel_holds g) (hold_holds g) (λ y listed. frame_holds g y (any_kept (lists y) kept g.frames listed))
    b.channels b.preview_scene b.holds b.watches
    (record {
      frame_numbers = times_fewer (λ (f : Frame). f.number) kept g.frames b.frames.frame_numbers;
      frames_rows = all_filter (λ (f : Frame). are_rows g f.serials) kept g.frames
          b.frames.frames_rows;
      frames_once = all_filter (λ (f : Frame). is_distinct f.serials) kept g.frames
          b.frames.frames_once;
      few_frames = filter_length kept 4 g.frames b.frames.few_frames;
    })
