-- A new item keeps what holds of the sources, and what a look at them shows is valid.
use Rattle.std.proofs.Common.{◌≡◌, ℕ, zero, suc, Bool, true, ◌&&◌, List, [], ◌∷◌, Option, Some}
use Rattle.std.proofs.Common.{None, refl, IsTrue, ◌+◌, ◌==◌, false, cond, not, map, filter, find}
use Rattle.std.proofs.Common.{ap, sym, ◌∙◌, nat_lt, eqb-true, eq-eqb, subst, is_none, inl, inr}
use Rattle.std.specs.List.{list_all, slice_get, list_any}
use Rattle.std.specs.Option.{IfSome, IsSomeAnd, option_map_or}
use Rattle.mix_model.specs.declared.item.Item.{Item}
use Rattle.mix_model.specs.declared.row.Row.{Row}
use Rattle.mix_model.specs.declared.row.RowView.{RowView}
use Rattle.mix_model.specs.Rows.{is_at, all_items, has_id, has_items, shows}
use Rattle.mix_model.specs.State.{GraphState}
use Rattle.mix_model.specs.Lookups.{row_of, is_row, items_of, items_or_none, row_passes, find_row}
use Rattle.mix_model.specs.Lookups.{item_at}
use Rattle.mix_model.specs.Values.{are_settings, is_sound, is_place}
use Rattle.mix_model.specs.Views.{IsView, IsValidView}
use Rattle.mix_model.specs.Shape.{GraphShape, is_child, is_bare, PartsFit, ids_below, names_differ}
use Rattle.mix_model.proofs.SetLemmas.{and_first, and_second, found_passes, and_both, or_left}
use Rattle.mix_model.proofs.SetLemmas.{or_cases, all_imply}
use Rattle.std.proofs.lemmas.Bool.{cond_both, not-true, not-false, not_from_false, or_from}
use Rattle.std.proofs.lemmas.Bool.{and_right, false_from_ne_true, both_ways}
use Rattle.std.proofs.lemmas.List.{map-append}
use Rattle.std.proofs.lemmas.List.Folds.{list_all-append, list_all-map}
use Rattle.mix_model.specs.declared.item.ItemSpec.{ItemSpec}
use Rattle.mix_model.specs.Sets.{has, rises_above}
use Rattle.mix_model.specs.Items.{with_item, new_item, spec_of}
use Rattle.mix_model.specs.Holders.{is_held, is_named_row, is_named, shows_some}
use Rattle.mix_model.specs.Walks.{is_chained}
use Rattle.mix_model.specs.Causes.{late_cause, item_cause, item_early, item_late, copy_cause}
use Rattle.mix_model.specs.Causes.{copy_early, copy_late, child_of}
use Rattle.mix_model.specs.Edits.{item_added, item_duplicated, copied_to}
use Rattle.mix_model.specs.EditedShape.{EditedShape}
use Rattle.mix_model.proofs.DyingLemmas.{all_members, member_passes}
use Rattle.mix_model.proofs.AddLemmas.{added_held}
use Rattle.mix_model.proofs.SteadyLemmas.{Steady, steady_at, at_same, rows_changed, steady_serials}
use Rattle.mix_model.proofs.SteadyLemmas.{steady_item, steady_registry, steady_beside, steady_rows}
use Rattle.mix_model.proofs.KeptShape.{filter_changed, differ_changed}
use Rattle.mix_model.proofs.FallLemmas.{all_rows}
use Rattle.mix_shape.proofs.SumLemmas.{found_any}
use Rattle.mix_shape.proofs.ThinnerLemmas.{HeldLess, named_less, differ_fewer, item_holds}
use Rattle.mix_shape.proofs.GrownShape.{no_cause, no_early, tight, ids_more, named_is_held}
use Rattle.mix_shape.proofs.GrownShape.{named_is_row, named_is_child}

-- an element at an index passes what all pass
get_passes : (q : Item → Bool) (items : List Item) (k : ℕ) → list_all q items ≡ true →
    IfSome (slice_get items k) (λ i. IsTrue (q i))
get_passes q [] k all = tt
get_passes q (i ∷ items) zero all = and_first _ _ all
get_passes q (i ∷ items) (suc k) all = get_passes q items k (and_second _ _ all)

found_items : (g : GraphState) (q : Item → Bool) → all_items (λ r i. q i) g.rows ≡ true →
    (parent : ℕ) (o : Option Row) → row_of g parent ≡ o → (k : ℕ) →
    IfSome (slice_get (items_or_none o) k) (λ i. IsTrue (q i))
found_items g q all parent None found k = tt
found_items g q all parent (Some r) found k = get_passes q r.items k
    (found_passes (is_at parent) (λ (s : Row). list_all q s.items) g.rows r found all).1

pub item_place : (g : GraphState) → GraphShape g → (parent k : ℕ) →
    IfSome (slice_get (items_of g parent) k) (λ i. IsTrue (is_place i.place))
item_place g shape parent k =
    found_items g (λ i. is_place i.place) shape.parts.rows.places_fit parent (row_of g parent) refl k

pub item_child : (g : GraphState) → GraphShape g → (parent k : ℕ) →
    IfSome (slice_get (items_of g parent) k) (λ i. IsTrue (is_row g i.child))
item_child g shape parent k =
    child_case (slice_get (items_of g parent) k)
    (found_items g (λ i. is_row g i.child && is_child g i.child) shape.parts.rows.children_rows parent
    (row_of g parent) refl k)
  where
    child_case : (o : Option Item) →
        IfSome o (λ i. IsTrue (is_row g i.child && is_child g i.child)) →
        IfSome o (λ i. IsTrue (is_row g i.child))
    child_case None h = tt
    child_case (Some i) h = and_first _ _ h

-- a row that a look-up finds
pub valid_view : (g : GraphState) → GraphShape g → (x : ℕ) (o : Option Row) → row_of g x ≡ o →
    (view : RowView) → IsSomeAnd o (λ row. IsView row view) → IsValidView view
valid_view g shape x None found view h = absurd h
valid_view g shape x (Some r) found view v =
    let fits : (are_settings r.kind r.settings && is_sound r.sound) ≡ true =
    (found_passes (is_at x) (λ (s : Row). are_settings s.kind s.settings && is_sound s.sound)
    g.rows r found shape.parts.rows.settings_fit).1 in
    let bare : is_bare r ≡ true =
    (found_passes (is_at x) is_bare g.rows r found shape.parts.rows.inputs_bare).1 in
    record {
      settings = rw (v.kind, v.settings) (and_first _ _ fits);
      sound = rw v.sound (and_second _ _ fits);
      bare = rw (v.kind, v.items) bare;
    }

module _ (parent child : ℕ) (spec : ItemSpec) where
  unfoldable pub at_parent : Row → Row
  at_parent r = cond (is_at parent r) (with_item child spec r) r

  -- what is changed of the parent is no serial, name or kind
  pub steady_parent : Steady at_parent
  unfolding at_parent with_item
  steady_parent =
      steady_at parent (with_item child spec) (record { serial = λ r. refl; kind = λ r. refl })

  pub name_parent : (r : Row) → (at_parent r).name ≡ r.name
  unfolding at_parent with_item
  name_parent r = at_same (λ (t : Row). t.name) (is_at parent r) (with_item child spec r) r refl

  -- ids, items and values of a row with an item more
  ids_kept : (r : Row) → ids_below r.next_item (map (λ i. i.id) r.items) ≡ true →
      ids_below (at_parent r).next_item (map (λ i. i.id) (at_parent r).items) ≡ true
  unfolding at_parent with_item new_item
  ids_kept r ids = cond_both (is_at parent r) (with_item child spec r) r
      (λ (t : Row). ids_below t.next_item (map (λ i. i.id) t.items) ≡ true)
      (λ here. ap (ids_below (r.next_item + 1)) (map-append (λ (i : Item). i.id) r.items
      (new_item r.next_item child spec ∷ []))
      ∙ ids_more r.next_item (map (λ (i : Item). i.id) r.items) ids) (λ there. ids)

  items_kept : (p : Item → Bool) → ((id : ℕ) → p (new_item id child spec) ≡ true) → (r : Row) →
      list_all p r.items ≡ true → list_all p (at_parent r).items ≡ true
  unfolding at_parent with_item
  items_kept p new r all = cond_both (is_at parent r) (with_item child spec r) r
      (λ (t : Row). list_all p t.items ≡ true)
      (λ here. list_all-append p r.items (new_item r.next_item child spec ∷ [])
      ∙ and_both _ _ all (and_both _ _ (new r.next_item) refl)) (λ there. all)

  fits_kept : (r : Row) → (are_settings r.kind r.settings && is_sound r.sound) ≡ true →
      (are_settings (at_parent r).kind (at_parent r).settings && is_sound (at_parent r).sound)
      ≡ true
  unfolding at_parent with_item
  fits_kept r fits = at_same (λ (t : Row). are_settings t.kind t.settings && is_sound t.sound)
      (is_at parent r) (with_item child spec r) r refl ∙ fits

  bare_kept : (r : Row) → (is_at parent r ≡ true → has_items r.kind ≡ true) → is_bare r ≡ true →
      is_bare (at_parent r) ≡ true
  unfolding at_parent with_item
  bare_kept r has bare = cond_both (is_at parent r) (with_item child spec r) r
      (λ (t : Row). is_bare t ≡ true) (λ here. or_left _ _ (has here)) (λ there. bare)

module _ (parent child : ℕ) (spec : ItemSpec) (g : GraphState) (parts : PartsFit g)
    (holds : row_passes g (λ r. has_items r.kind) parent ≡ true)
    (there : is_row g child ≡ true) (fits : is_child g child ≡ true)
    (fresh : has child g.dying ≡ false) (place : is_place spec.place ≡ true) where
  abbrev h : Row → Row
  h = at_parent parent child spec

  s : Steady h
  s = steady_parent parent child spec

  abbrev more : GraphState
  more = record g { rows = map h g.rows }

  items_more : (p q : Item → Bool) → ((i : Item) → p i ≡ true → q i ≡ true) →
      ((id : ℕ) → q (new_item id child spec) ≡ true) →
      all_items (λ r i. p i) g.rows ≡ true → all_items (λ r i. q i) (map h g.rows) ≡ true
  items_more p q imply new = rows_changed h (λ r. list_all p r.items) (λ r. list_all q r.items)
      (λ r all. items_kept parent child spec q new r (all_imply p q imply r.items all)) g.rows

  children_more : all_items (λ r i. is_row more i.child && is_child more i.child) more.rows ≡ true
  unfolding new_item
  children_more = items_more (λ i. is_row g i.child && is_child g i.child)
      (λ i. is_row more i.child && is_child more i.child) (steady_item h s g g.dying)
      (λ id. steady_item h s g g.dying (new_item id child spec) (and_both _ _ there fits))
      parts.rows.children_rows

  places_more : all_items (λ r i. is_place i.place) more.rows ≡ true
  unfolding new_item
  places_more = items_more (λ i. is_place i.place) (λ i. is_place i.place) (λ i ok. ok)
      (λ id. place) parts.rows.places_fit

  -- the parent is a scene or group
  parent_holds : (r : Row) → find (is_at r.serial) g.rows ≡ Some r → is_at parent r ≡ true →
      has_items r.kind ≡ true
  parent_holds r found here =
      let same : find_row g.rows parent ≡ Some r =
      ap (find_row g.rows) (sym (eqb-true r.serial parent here)) ∙ found in
      ap (λ o. option_map_or (λ (t : Row). has_items t.kind) o false) (sym same) ∙ holds

  bare_more : list_all is_bare (map h g.rows) ≡ true
  bare_more = list_all-map is_bare h g.rows
      ∙ all_rows (λ r. is_bare (h r)) 0 g.rows parts.rows.serials_rise
      (λ r found. bare_kept parent child spec r (parent_holds r found)
      (found_passes (is_at r.serial) is_bare g.rows r found parts.rows.inputs_bare).1)

  -- what dies isn't the child
  dying_more : list_all (λ x. not (is_held (item_added parent child spec g) x)) g.dying ≡ true
  dying_more = all_members (λ x. not (is_held (item_added parent child spec g) x)) g.dying
      (λ x dies. not_from_false _ (added_held g parent child spec x ∙ or_from _ _
      (not-true _ (member_passes (λ y. not (is_held g y)) x g.dying dies parts.dying.none_held))
      (and_right (list_any (is_at parent) g.rows) _ (false_from_ne_true (child == x)
      (λ same. both_ways _ fresh
      (ap (λ y. has y g.dying) (eqb-true child x same) ∙ dies))))))

  pub added_parts : PartsFit (item_added parent child spec g)
  unfolding item_added at_parent
  added_parts =
      let ids : Row → Bool = λ r. ids_below r.next_item (map (λ i. i.id) r.items) in
      let values : Row → Bool = λ r. are_settings r.kind r.settings && is_sound r.sound in
      record {
        rows = record {
          serials_rise = ap (rises_above 0) (steady_serials h s g.rows) ∙ parts.rows.serials_rise;
          serials_start = parts.rows.serials_start;
          serials_below = ap (list_all (λ x. nat_lt x g.next_serial)) (steady_serials h s g.rows)
              ∙ parts.rows.serials_below;
          item_ids = rows_changed h ids ids (ids_kept parent child spec) g.rows
              parts.rows.item_ids;
          children_rows = children_more;
          inputs_bare = bare_more;
          settings_fit = rows_changed h values values (fits_kept parent child spec) g.rows
              parts.rows.settings_fit;
          places_fit = places_more;
        };
        registry = steady_registry h s g g.dying parts.registry;
        beside = steady_beside h s g g.dying parts.beside;
        dying = record {
          dying_rows = steady_rows h s g g.dying g.dying parts.dying.dying_rows;
          none_held = dying_more;
          dying_once = parts.dying.dying_once;
        };
      }

-- what is held doesn't die
held_lives : (g : GraphState) → PartsFit g → (x : ℕ) → is_held g x ≡ true → has x g.dying ≡ false
held_lives g parts x held = false_from_ne_true _ (λ dies. both_ways _
    (not-true _ (member_passes (λ y. not (is_held g y)) x g.dying dies parts.dying.none_held)) held)

-- a new item holds what was held, and nothing else that wasn't
added_less : (parent child : ℕ) (spec : ItemSpec) (g : GraphState) → is_held g child ≡ true →
    HeldLess g (item_added parent child spec g)
added_less parent child spec g held y after =
    elim (or_cases _ _ (sym (added_held g parent child spec y) ∙ after)) [
      | inl before ↦ before
      | inr both ↦ ap (is_held g) (sym (eqb-true child y (and_second _ _ both))) ∙ held
    ]

-- names of rows with an item more, where as many are named
pub added_names : (parent child : ℕ) (spec : ItemSpec) (p q : Row → Bool) (rows : List Row) →
    ((r : Row) → q (at_parent parent child spec r) ≡ true → p r ≡ true) →
    names_differ (filter p rows) ≡ true →
    names_differ (filter q (map (at_parent parent child spec) rows)) ≡ true
added_names parent child spec p q rows fewer differ =
    let h : Row → Row = at_parent parent child spec in
    ap names_differ (filter_changed q (λ r. q (h r)) h (λ r. refl) rows)
    ∙ differ_changed h (name_parent parent child spec) (filter (λ r. q (h r)) rows)
    ∙ differ_fewer p (λ r. q (h r)) fewer rows differ

-- a row's name doesn't ask for its items
named_at : (h : Row → Row) → Steady h → (g : GraphState) (r : Row) →
    is_named_row g (h r) ≡ true → is_named_row g r ≡ true
unfolding is_named_row
named_at h s g r named = rw (s.serial r, s.kind r) at named

pub added_shape : (parent child : ℕ) (spec : ItemSpec) (g : GraphState) → GraphShape g →
    row_passes g (λ r. has_items r.kind) parent ≡ true → is_row g child ≡ true →
    is_child g child ≡ true → is_held g child ≡ true → is_place spec.place ≡ true →
    late_cause (item_added parent child spec g) ≡ None → EditedShape (item_added parent child spec g)
unfolding item_added at_parent
added_shape parent child spec g shape holds there fits held place none =
    let new : GraphState = item_added parent child spec g in
    tight new (added_parts parent child spec g shape.parts holds there fits
    (held_lives g shape.parts child held) place)
    (added_names parent child spec (is_named_row g) (is_named_row new) g.rows
    (λ r named. named_at (at_parent parent child spec) (steady_parent parent child spec) g r
    (named_less g new (added_less parent child spec g held) (λ y listed. listed)
    (at_parent parent child spec r) named)) shape.names)
    none

-- where no circle comes, the later causes are left
no_circle : (g : GraphState) (parent child : ℕ) (after : GraphState) →
    item_late g parent child after ≡ None → late_cause after ≡ None
unfolding item_late late_cause
no_circle g parent child after none = (no_cause (is_chained g child parent) _ _ none).1

-- an item that isn't refused
pub item_added_shape : (parent child : ℕ) (spec : ItemSpec) (g : GraphState) → GraphShape g →
    is_place spec.place ≡ true →
    item_cause g parent child (item_added parent child spec g) ≡ None →
    EditedShape (item_added parent child spec g)
unfolding item_early
item_added_shape parent child spec g shape place none =
    let new : GraphState = item_added parent child spec g in
    let both = no_early (item_early g parent child) (item_late g parent child new) none in
    let first = no_cause (not (is_named g parent)) _ _ both.0 in
    let second = no_cause (not (is_named g child)) _ _ first.1 in
    let third = no_cause (not (row_passes g (λ r. has_items r.kind) parent)) _ _ second.1 in
    let named : is_named g child ≡ true = not-false (is_named g child) second.0 in
    added_shape parent child spec g shape
    (not-false (row_passes g (λ r. has_items r.kind) parent) third.0)
    (named_is_row g child named) (named_is_child g child named) (named_is_held g child named)
    place (no_circle g parent child new both.1)

-- what holds of each item of each row holds of one that a look-up finds
item_found : (g : GraphState) (q : Item → Bool) → all_items (λ r i. q i) g.rows ≡ true →
    (parent id : ℕ) (o : Option Row) → row_of g parent ≡ o → (i : Item) →
    find (has_id id) (items_or_none o) ≡ Some i → q i ≡ true
item_found g q all parent id None row i found = cc
item_found g q all parent id (Some r) row i found =
    let items : list_all q r.items ≡ true =
    (found_passes (is_at parent) (λ (t : Row). list_all q t.items) g.rows r row all).1 in
    (found_passes (has_id id) q r.items i found items).1

-- an item holds its child
child_held : (g : GraphState) (parent id : ℕ) (o : Option Row) → row_of g parent ≡ o → (i : Item) →
    find (has_id id) (items_or_none o) ≡ Some i → is_held g i.child ≡ true
child_held g parent id None row i found = cc
child_held g parent id (Some r) row i found =
    item_holds g i.child (found_any (is_at parent) (shows_some i.child) g.rows r row
    (found_any (has_id id) (shows i.child) r.items i found (eq-eqb i.child i.child refl)))

-- a copy that isn't refused
pub duplicated_shape : (parent id to : ℕ) (g : GraphState) → GraphShape g →
    copy_cause g parent id to (item_duplicated parent id to g) ≡ None →
    EditedShape (item_duplicated parent id to g)
unfolding copy_early copy_late item_duplicated item_added spec_of
duplicated_shape parent id to g shape none =
    let both = no_early (copy_early g parent id to)
    (copy_late g parent id to (item_duplicated parent id to g)) none in
    let first = no_cause (not (is_named g parent)) _ _ both.0 in
    let second = no_cause (is_none (item_at g parent id)) _ _ first.1 in
    let third = no_cause (not (is_named g to)) _ _ second.1 in
    let fourth = no_cause (not (row_passes g (λ r. has_items r.kind) to)) _ _ third.1 in
    item_case (item_at g parent id) refl second.0
    (not-false (row_passes g (λ r. has_items r.kind) to) fourth.0)
    (no_circle g to (child_of (item_at g parent id)) (copied_to to (item_at g parent id) g) both.1)
  where
    item_case : (o : Option Item) → item_at g parent id ≡ o → is_none o ≡ false →
        row_passes g (λ r. has_items r.kind) to ≡ true →
        late_cause (copied_to to (item_at g parent id) g) ≡ None →
        EditedShape (copied_to to (item_at g parent id) g)
    item_case None found there holds late = cc
    item_case (Some i) found there holds late =
        let child : (is_row g i.child && is_child g i.child) ≡ true =
        item_found g (λ j. is_row g j.child && is_child g j.child) shape.parts.rows.children_rows parent id
        (row_of g parent) refl i found in
        let place : is_place i.place ≡ true =
        item_found g (λ j. is_place j.place) shape.parts.rows.places_fit parent id (row_of g parent) refl i
        found in
        subst (λ o. EditedShape (copied_to to o g)) (sym found)
        (added_shape to i.child (spec_of i) g shape holds (and_first _ _ child)
        (and_second _ _ child) (child_held g parent id (row_of g parent) refl i found) place
        (ap (λ o. late_cause (copied_to to o g)) (sym found) ∙ late))
