-- Named rows, causes that did not come, ids one more or some fewer; and that a new row keeps what
-- holds of the sources, but for names and limits.
use Rattle.std.proofs.Common.{◌≡◌, ℕ, ◌+◌, ◌==◌, Bool, true, false, cond, not, ◌&&◌, List, [], ◌∷◌}
use Rattle.std.proofs.Common.{◌++◌, map, filter, length, Option, Some, None, refl, ap, sym, ◌∙◌}
use Rattle.std.proofs.Common.{arith, nat_le, nat_lt, le-leb, leb-true, eqb-true, is_some, subst}
use Rattle.std.proofs.Common.{◌<◌, ◌≤◌, find, eq-eqb, lt-ltb, ltb-true, ne_eqb}
use Rattle.std.specs.List.{list_all}
use Rattle.std.specs.Option.{option_map_or, option_or}
use Rattle.std.proofs.lemmas.Bool.{not-false, ltb-false}
use Rattle.std.proofs.lemmas.List.Folds.{list_all-map, list_all-append, find-append}
use Rattle.std.proofs.lemmas.List.Filters.{length-filter_both, sum_by-filter_both}
use Rattle.mix_model.specs.declared.fault.GraphFault.{GraphFault}
use Rattle.mix_model.specs.declared.kind.Kind.{Kind}
use Rattle.mix_model.specs.declared.row.Row.{Row}
use Rattle.mix_model.specs.Sets.{has, is_distinct, rises_above}
use Rattle.mix_model.specs.Rows.{is_at, is_group, is_scene, is_input, new_row, serials_of}
use Rattle.mix_model.specs.Rows.{has_items}
use Rattle.mix_model.specs.State.{GraphState}
use Rattle.mix_model.specs.Lookups.{is_row, row_of, row_passes, registry, find_row}
use Rattle.mix_model.specs.Holders.{is_held, is_named_row, is_named, named_row_or_none, shows_some}
use Rattle.mix_model.specs.Ranks.{ranks_within, weights_within}
use Rattle.mix_model.specs.Causes.{item_count, late_cause, cause_or}
use Rattle.mix_model.specs.Shape.{PartsFit, ids_below, is_child, names_differ, RowsFit, is_bare}
use Rattle.mix_model.specs.EditedShape.{EditedShape}
use Rattle.mix_model.proofs.SetLemmas.{and_both, and_first, and_second, found_test, or_imply}
use Rattle.mix_model.proofs.SetLemmas.{or_right, not_imply, all_imply}
use Rattle.mix_model.proofs.DistinctLemmas.{all_filter, row_is_listed}
use Rattle.mix_model.proofs.FallLemmas.{shallow_falls}
use Rattle.mix_shape.proofs.SumLemmas.{one_if, sum_map, distinct_times, times_distinct, times}
use Rattle.mix_shape.proofs.SumLemmas.{times_cons, absent_times, any_last}
use Rattle.mix_shape.proofs.ThinnerLemmas.{named_held, differ_more, below_more, below_next}
use Rattle.mix_shape.proofs.ThinnerLemmas.{fresh_row}
use Rattle.std.proofs.lemmas.List.{map-append}
use Rattle.std.proofs.lemmas.List.Sums.{sum_by-append}
use Rattle.mix_model.specs.declared.settings.Settings.{Settings}
use Rattle.mix_model.specs.Values.{are_settings, is_sound, is_place, new_sound}
use Rattle.mix_model.proofs.DyingLemmas.{all_members, member_passes}
use Rattle.mix_model.proofs.SteadyLemmas.{Sees, item_seen, beside_seen, rows_seen}

-- a named row is held, a row, and may be shown
pub record Named (g : GraphState) (x : ℕ) : Type 0 where
  pub row : Row
  pub found : row_of g x ≡ Some row
  pub serial : row.serial ≡ x
  pub named : is_named_row g row ≡ true

named_found : (g : GraphState) (x : ℕ) (o : Option Row) → row_of g x ≡ o →
    named_row_or_none g o ≡ true → Named g x
named_found g x None found named = cc
named_found g x (Some r) found named = record {
  row = r;
  found = found;
  serial = eqb-true r.serial x (found_test (is_at x) g.rows r found);
  named = named;
}

pub named_row : (g : GraphState) (x : ℕ) → is_named g x ≡ true → Named g x
named_row g x named = named_found g x (row_of g x) refl named

pub named_is_held : (g : GraphState) (x : ℕ) → is_named g x ≡ true → is_held g x ≡ true
named_is_held g x named =
    let n : Named g x = named_row g x named in
    subst (λ y. is_held g y ≡ true) n.serial (named_held g n.row n.named)

pub named_is_row : (g : GraphState) (x : ℕ) → is_named g x ≡ true → is_row g x ≡ true
named_is_row g x named = ap is_some (named_row g x named).found

-- what passes a test of its kind is a row
pub passed_some : (test : Kind → Bool) (o : Option Row) →
    option_map_or (λ r. test r.kind) o false ≡ true → is_some o ≡ true
passed_some test None passes = passes
passed_some test (Some r) passes = refl

-- a named row that passes a test of its kind
kind_of_named : (g : GraphState) (x : ℕ) (n : Named g x) →
    row_passes g (λ r. is_group r.kind) x ≡ is_group n.row.kind
kind_of_named g x n = ap (λ o. option_map_or (λ r. is_group r.kind) o false) n.found

pub named_is_child : (g : GraphState) (x : ℕ) → is_named g x ≡ true → is_child g x ≡ true
unfolding is_named_row
named_is_child g x named =
    let n : Named g x = named_row g x named in
    or_imply (has n.row.serial (registry g)) (is_group n.row.kind && is_held g n.row.serial)
    (has x (registry g)) (row_passes g (λ r. is_group r.kind) x)
    (λ here. subst (λ y. has y (registry g) ≡ true) n.serial here)
    (λ group. kind_of_named g x n ∙ and_first _ _ group) n.named

-- a cause that didn't come
pub no_cause : (b : Bool) (fault : GraphFault) (rest : Option GraphFault) →
    cond b (Some fault) rest ≡ None → (b ≡ false) × (rest ≡ None)
no_cause true fault rest h = cc
no_cause false fault rest h = (refl, h)

-- one id more, the next one
pub ids_more : (next : ℕ) (ids : List ℕ) → ids_below next ids ≡ true →
    ids_below (next + 1) (ids ++ next ∷ []) ≡ true
ids_more next ids old =
    and_both _ _ (differ_more ids next (and_first _ _ old) (and_second _ _ old))
    (below_more ids next (and_second _ _ old))

pub times_fewer : {X : Type 0} (id : X → ℕ) (p : X → Bool) (xs : List X) →
    is_distinct (map id xs) ≡ true → is_distinct (map id (filter p xs)) ≡ true
times_fewer {X} id p xs once =
    times_distinct (map id (filter p xs)) (λ y.
    omega (
      arith,
      sum_map (λ z. one_if (z == y)) id (filter p xs),
      sum_map (λ z. one_if (z == y)) id xs,
      sum_by-filter_both p (λ (x : X). not (p x)) (λ x. refl) (λ (x : X). one_if (id x == y)) xs,
      distinct_times (map id xs) once y,
    ))

-- some ids fewer
pub ids_fewer : {X : Type 0} (id : X → ℕ) (p : X → Bool) (next : ℕ) (xs : List X) →
    ids_below next (map id xs) ≡ true → ids_below next (map id (filter p xs)) ≡ true
ids_fewer {X} id p next xs old =
    let once : is_distinct (map id (filter p xs)) ≡ true = times_fewer id p xs (and_first _ _ old) in
    let below : list_all (λ n. nat_lt n next) (map id (filter p xs)) ≡ true =
    list_all-map (λ n. nat_lt n next) id (filter p xs)
    ∙ all_filter (λ (x : X). nat_lt (id x) next) p xs
    (sym (list_all-map (λ n. nat_lt n next) id xs) ∙ and_second _ _ old) in
    and_both _ _ once below

-- as many of a part, or fewer
pub filter_length : {X : Type 0} (p : X → Bool) (most : ℕ) (xs : List X) →
    nat_le (length xs) most ≡ true → nat_le (length (filter p xs)) most ≡ true
filter_length {X} p most xs few =
    le-leb (length (filter p xs)) most (omega (
      arith,
      leb-true (length xs) most few,
      length-filter_both p (λ (x : X). not (p x)) (λ x. refl) xs,
    ))

-- where a call that creates isn't refused, neither early nor late causes came
pub no_early : (early late : Option GraphFault) → cause_or early late ≡ None →
    (early ≡ None) × (late ≡ None)
no_early None late none = (refl, none)
no_early (Some fault) late none = cc

-- names that differ, and no late cause, are all that is left to ask of what an edit makes
pub tight : (g : GraphState) → PartsFit g → names_differ (filter (is_named_row g) g.rows) ≡ true →
    late_cause g ≡ None → EditedShape g
unfolding late_cause
tight g parts differ none =
    let deep = no_cause (not (ranks_within 16 g)) _ _ none in
    let rows = no_cause (nat_lt 512 (length g.rows)) _ _ deep.1 in
    let items = no_cause (nat_lt 2048 (item_count g.rows)) _ _ rows.1 in
    let heavy = no_cause (not (weights_within 4096 g)) _ _ items.1 in
    let shallow : ranks_within 16 g ≡ true = not-false (ranks_within 16 g) deep.0 in
    record {
      parts = parts;
      limits = record {
        few_rows = le-leb (length g.rows) 512 (ltb-false 512 (length g.rows) rows.0);
        few_items = le-leb (item_count g.rows) 2048 (ltb-false 2048 (item_count g.rows) items.0);
        light = not-false (weights_within 4096 g) heavy.0;
        shallow = shallow;
        falling = shallow_falls g parts.rows.serials_rise parts.rows.inputs_bare shallow;
      };
      names = differ;
    }

-- a number more, where it wasn't
pub distinct_between : (n : ℕ) (xs ys : List ℕ) → is_distinct (xs ++ ys) ≡ true →
    has n (xs ++ ys) ≡ false → is_distinct ((xs ++ n ∷ []) ++ ys) ≡ true
distinct_between n xs ys once none =
    times_distinct ((xs ++ n ∷ []) ++ ys) (λ y. few y (n == y) refl)
  where
    few : (y : ℕ) (b : Bool) → (n == y) ≡ b → times y ((xs ++ n ∷ []) ++ ys) ≤ 1
    few y b is =
        let t : ℕ → ℕ = λ z. one_if (z == y) in
        let one : times y (n ∷ []) ≡ one_if b = times_cons y n [] ∙ most b is in
        let zero : b ≡ true → times y (xs ++ ys) ≡ 0 = λ h. absent_times y (xs ++ ys)
        (ap (λ z. has z (xs ++ ys)) (sym (eqb-true n y (is ∙ h))) ∙ none) in
        at_most b (times y (xs ++ ys)) (times y ((xs ++ n ∷ []) ++ ys)) zero
        (distinct_times (xs ++ ys) once y)
        (omega (
          arith,
          sum_by-append t (xs ++ n ∷ []) ys,
          sum_by-append t xs (n ∷ []),
          sum_by-append t xs ys,
          one,
        ))
      where
        most : (b : Bool) → (n == y) ≡ b → one_if (n == y) + times y [] ≡ one_if b
        most b is = let same : one_if (n == y) ≡ one_if b = ap one_if is in omega (arith, same)

        at_most : (b : Bool) (old all : ℕ) → (b ≡ true → old ≡ 0) → old ≤ 1 →
            all ≡ old + one_if b → all ≤ 1
        at_most true old all zero few is = omega (arith, zero refl, is)
        at_most false old all zero few is = omega (arith, few, is)

pub rises_more : (m n : ℕ) (xs : List ℕ) → m < n → rises_above m xs ≡ true →
    list_all (λ x. nat_lt x n) xs ≡ true → rises_above m (xs ++ n ∷ []) ≡ true
rises_more m n [] low rises below = and_both _ _ (lt-ltb m n low) refl
rises_more m n (x ∷ xs) low rises below =
    and_both _ _ (and_first _ _ rises)
    (rises_more x n xs (ltb-true x n (and_first _ _ below)) (and_second _ _ rises)
    (and_second _ _ below))

-- a number below another differs from it
pub below_other : (n x : ℕ) → nat_lt x n ≡ true → (n == x) ≡ false
below_other n x less =
    let low : x < n = ltb-true x n less in
    ne_eqb n x (λ same. omega (arith, low, same))

-- a new row, and the registry with it
pub record NewRow : Type 0 where
  pub name : List ℕ
  pub kind : Kind
  pub settings : Settings
  pub scenes : List ℕ
  pub inputs : List ℕ

-- a new row that isn't registered
abbrev pub unlisted : List ℕ → Kind → Settings → GraphState → NewRow
unlisted name kind settings g = record {
  name = name;
  kind = kind;
  settings = settings;
  scenes = g.scenes;
  inputs = g.inputs;
}

module _ (n : NewRow) (g : GraphState) (parts : PartsFit g) where
  abbrev pub new : Row
  new = new_row g.next_serial n.name n.kind n.settings new_sound

  abbrev pub grown : GraphState
  grown = record g {
    rows = g.rows ++ new ∷ [];
    next_serial = g.next_serial + 1;
    scenes = n.scenes;
    inputs = n.inputs;
  }

  -- what is asked of the new row, and of the registry with it
  pub record GrownFits : Type 0 where
    pub fits : are_settings n.kind n.settings ≡ true
    pub once : is_distinct (n.scenes ++ n.inputs) ≡ true
    pub more : (y : ℕ) → has y (registry g) ≡ true → has y (n.scenes ++ n.inputs) ≡ true
    pub more_scenes : (y : ℕ) → has y g.scenes ≡ true → has y n.scenes ≡ true
    pub less : (y : ℕ) → nat_lt y g.next_serial ≡ true → has y (n.scenes ++ n.inputs) ≡ true →
        has y (registry g) ≡ true
    pub scenes_pass : list_all (row_passes grown (λ r. is_scene r.kind)) n.scenes ≡ true
    pub inputs_pass : list_all (row_passes grown (λ r. is_input r.kind)) n.inputs ≡ true

  -- rows are still found
  pub found_more : (y : ℕ) (o : Option Row) → find_row g.rows y ≡ o → is_some o ≡ true →
      find_row grown.rows y ≡ o
  found_more y None found there = cc
  found_more y (Some r) found there = find-append (is_at y) g.rows (new ∷ [])
      ∙ ap (λ o. option_or o (find (is_at y) (new ∷ []))) found

  pub pass_more : (test : Kind → Bool) (y : ℕ) → row_passes g (λ r. test r.kind) y ≡ true →
      row_passes grown (λ r. test r.kind) y ≡ true
  pass_more test y passes =
      ap (λ o. option_map_or (λ (r : Row). test r.kind) o false)
      (found_more y (find_row g.rows y) refl (passed_some test (find_row g.rows y) passes))
      ∙ passes

  or_none : (o : Option Row) → option_or o None ≡ o
  or_none None = refl
  or_none (Some r) = refl

  old_found : (y : ℕ) → nat_lt y g.next_serial ≡ true → find_row grown.rows y ≡ find_row g.rows y
  unfolding new_row
  old_found y less = find-append (is_at y) g.rows (new ∷ [])
      ∙ rw (below_other g.next_serial y less) (or_none (find_row g.rows y))

  -- and so is the new one
  pub new_found : find_row grown.rows g.next_serial ≡ Some new
  unfolding new_row
  new_found = find-append (is_at g.next_serial) g.rows (new ∷ [])
      ∙ ap (λ o. option_or o (find (is_at g.next_serial) (new ∷ [])))
      (fresh_row g.rows g.next_serial parts.rows.serials_below)
      ∙ ap (λ b. cond b (Some new) None) (eq-eqb g.next_serial g.next_serial refl)

  -- what the registry lists is of its kind, and so is the new one
  pub old_pass : (test : Kind → Bool) (xs : List ℕ) →
      list_all (row_passes g (λ r. test r.kind)) xs ≡ true →
      list_all (row_passes grown (λ r. test r.kind)) xs ≡ true
  old_pass test = all_imply (row_passes g (λ r. test r.kind)) (row_passes grown (λ r. test r.kind))
      (pass_more test)

  pub new_passes : (test : Kind → Bool) (xs : List ℕ) →
      list_all (row_passes g (λ r. test r.kind)) xs ≡ true → test n.kind ≡ true →
      list_all (row_passes grown (λ r. test r.kind)) (xs ++ g.next_serial ∷ []) ≡ true
  unfolding new_row
  new_passes test xs all own =
      list_all-append (row_passes grown (λ r. test r.kind)) xs (g.next_serial ∷ [])
      ∙ and_both _ _ (old_pass test xs all)
      (and_both _ _ (ap (λ o. option_map_or (λ (r : Row). test r.kind) o false) new_found ∙ own)
      refl)

  pub row_below : (y : ℕ) → is_row g y ≡ true → nat_lt y g.next_serial ≡ true
  row_below y there =
      member_passes (λ x. nat_lt x g.next_serial) y (serials_of g.rows)
      (sym (row_is_listed g.rows y) ∙ there) parts.rows.serials_below

  sees_more : Sees g grown.rows n.scenes n.inputs g.dying (g.next_serial + 1)
  sees_more = record {
    there = λ y there. ap is_some (found_more y (find_row g.rows y) refl there) ∙ there;
    pass = pass_more;
    before = λ y less there. ap is_some (sym (old_found y less)) ∙ there;
    later = below_next g.next_serial;
  }

  serials_are : serials_of grown.rows ≡ serials_of g.rows ++ g.next_serial ∷ []
  unfolding new_row
  serials_are = map-append (λ (r : Row). r.serial) g.rows (new ∷ [])

  -- what old rows and the new one pass
  rows_more : (p q : Row → Bool) → ((r : Row) → p r ≡ true → q r ≡ true) → q new ≡ true →
      list_all p g.rows ≡ true → list_all q grown.rows ≡ true
  rows_more p q imply own all =
      list_all-append q g.rows (new ∷ [])
      ∙ and_both _ _ (all_imply p q imply g.rows all) (and_both _ _ own refl)

  module _ (f : GrownFits) where
    -- nothing more holds the other rows
    pub held_old : (y : ℕ) → nat_lt y g.next_serial ≡ true → is_held grown y ≡ true →
        is_held g y ≡ true
    unfolding is_held new_row
    held_old y less =
        or_imply _ _ _ _ (f.less y less) (or_imply _ _ _ _ (λ a. a)
        (or_imply _ _ _ _
        (any_last (shows_some y) g.rows new _ (λ shown. shown) (λ none. cc)) (λ d. d)))

    grown_rows : RowsFit grown
    unfolding new_row new_sound is_sound
    grown_rows =
        let old : RowsFit g = parts.rows in
        let ids : Row → Bool = λ r. ids_below r.next_item (map (λ i. i.id) r.items) in
        let values : Row → Bool = λ r. are_settings r.kind r.settings && is_sound r.sound in
        record {
          serials_rise = ap (rises_above 0) serials_are
              ∙ rises_more 0 g.next_serial (serials_of g.rows) (ltb-true 0 g.next_serial
              old.serials_start) old.serials_rise old.serials_below;
          serials_start = below_next g.next_serial 0 old.serials_start;
          serials_below = ap (list_all (λ x. nat_lt x (g.next_serial + 1))) serials_are
              ∙ below_more (serials_of g.rows) g.next_serial old.serials_below;
          item_ids = rows_more ids ids (λ r ok. ok) refl old.item_ids;
          children_rows = rows_more
              (λ r. list_all (λ i. is_row g i.child && is_child g i.child) r.items)
              (λ r. list_all (λ i. is_row grown i.child && is_child grown i.child) r.items)
              (λ r. all_imply (λ i. is_row g i.child && is_child g i.child)
              (λ i. is_row grown i.child && is_child grown i.child)
              (item_seen g grown.rows n.scenes n.inputs g.dying (g.next_serial + 1) sees_more f.more)
              r.items) refl old.children_rows;
          inputs_bare = rows_more is_bare is_bare (λ r ok. ok)
              (or_right (has_items n.kind) true refl) old.inputs_bare;
          settings_fit = rows_more values values (λ r ok. ok)
              (and_both (are_settings n.kind n.settings) true f.fits refl) old.settings_fit;
          places_fit = rows_more (λ r. list_all (λ i. is_place i.place) r.items)
              (λ r. list_all (λ i. is_place i.place) r.items) (λ r ok. ok) refl old.places_fit;
        }

    dying_old : list_all (λ x. not (is_held grown x)) g.dying ≡ true
    dying_old = all_members (λ x. not (is_held grown x)) g.dying (λ x dies.
        not_imply (is_held g x) (is_held grown x)
        (held_old x (row_below x (member_passes (is_row g) x g.dying dies parts.dying.dying_rows)))
        (member_passes (λ y. not (is_held g y)) x g.dying dies parts.dying.none_held))

    pub grown_parts : PartsFit grown
    grown_parts = record {
      rows = grown_rows;
      registry = record {
        scenes_scenes = f.scenes_pass;
        inputs_inputs = f.inputs_pass;
        registry_once = f.once;
      };
      beside = beside_seen g grown.rows n.scenes n.inputs g.dying (g.next_serial + 1) sees_more f.more
          f.more_scenes parts.beside;
      dying = record {
        dying_rows = rows_seen g grown.rows n.scenes n.inputs g.dying (g.next_serial + 1) sees_more
            g.dying parts.dying.dying_rows;
        none_held = dying_old;
        dying_once = parts.dying.dying_once;
      };
    }
