-- To set an input and to rename a source keeps what holds of the sources; the registry with one
-- more, and the names of named rows with a new one.
use Rattle.std.proofs.Common.{◌≡◌, ℕ, ◌==◌, Bool, true, false, cond, not, ◌&&◌, List, [], ◌∷◌, ◌++◌}
use Rattle.std.proofs.Common.{filter, refl, ap, sym, ◌∙◌, nat_lt, bytes_eq, inl, inr, eq-eqb, ◌+◌}
use Rattle.std.proofs.Common.{map, find, Option, Some, None, nat_le, eqb-true, IsTrue, ◌⊎◌}
use Rattle.std.specs.List.{list_all, list_any}
use Rattle.std.proofs.lemmas.Bool.{not-true, not_from_false, false_from_ne_true, both_ways}
use Rattle.std.proofs.lemmas.Bool.{or_parts, or_from, cond_both}
use Rattle.std.proofs.lemmas.List.{append-nil}
use Rattle.std.proofs.lemmas.List.Elements.{filter-append}
use Rattle.std.proofs.lemmas.List.Folds.{list_any-append, list_all-map}
use Rattle.mix_model.specs.declared.row.Row.{Row}
use Rattle.mix_model.specs.Sets.{has, is_distinct}
use Rattle.mix_model.specs.Rows.{is_scene, is_input, serials_of, is_at}
use Rattle.mix_model.specs.State.{GraphState}
use Rattle.mix_model.specs.Lookups.{row_passes, is_row, registry, find_row}
use Rattle.mix_model.specs.Holders.{is_named_row, has_name, find_named, named_row_or_none, is_named}
use Rattle.mix_model.specs.Shape.{GraphShape, PartsFit, names_differ}
use Rattle.mix_model.proofs.SetLemmas.{and_both, and_first, and_second, or_cases, or_left, or_right}
use Rattle.mix_model.proofs.SetLemmas.{or_imply, found_passes, found_test}
use Rattle.mix_model.proofs.DyingLemmas.{member_passes}
use Rattle.mix_model.proofs.DistinctLemmas.{row_is_listed, all_filter, rises_distinct}
use Rattle.mix_shape.proofs.SumLemmas.{all_none, any_last, filter_all, filter_both}
use Rattle.mix_shape.proofs.ThinnerLemmas.{has_append, below_absent, part_within, differ_fewer}
use Rattle.mix_shape.proofs.GrownShape.{passed_some, times_fewer}
use Rattle.std.specs.Option.{option_map_or}
use Rattle.std.proofs.lemmas.Slice.Eq.{bytes_eq-Decides}
use Rattle.mix_model.specs.declared.settings.Settings.{Settings}
use Rattle.mix_model.specs.declared.place.Sound.{Sound}
use Rattle.mix_shape.specs.Refused.{is_missing}
use Rattle.mix_model.specs.Values.{are_settings, is_sound, is_place}
use Rattle.mix_model.specs.Edits.{input_set, renamed, set_to, named_as}
use Rattle.mix_model.specs.EditedShape.{EditedShape}
use Rattle.mix_model.proofs.SteadyLemmas.{at_same}
use Rattle.mix_model.proofs.BlindLemmas.{Blind, blind_at, all_rows_same, named_same}
use Rattle.mix_model.proofs.KeptShape.{names_kept, kept_shape, filter_changed}
use Rattle.mix_model.proofs.FallLemmas.{all_rows}
use Rattle.mix_model.proofs.EditShape.{edited_of}

-- what is beside serials, kinds and items isn't seen
blind_set : (settings : Settings) (sound : Sound) → Blind (set_to settings sound)
blind_set settings sound = record {
  steady = record { serial = λ r. refl; kind = λ r. refl };
  children = λ r. refl;
  ids = λ r. refl;
  next = λ r. refl;
}

blind_named : (name : List ℕ) → Blind (named_as name)
blind_named name = record {
  steady = record { serial = λ r. refl; kind = λ r. refl };
  children = λ r. refl;
  ids = λ r. refl;
  next = λ r. refl;
}

-- the settings and the sound of a row are valid
abbrev fits : Row → Bool
fits r = are_settings r.kind r.settings && is_sound r.sound

module _ (x : ℕ) (settings : Settings) (sound : Sound) (g : GraphState) (shape : GraphShape g)
    (input : row_passes g (λ r. is_input r.kind && are_settings r.kind settings) x ≡ true)
    (heard : is_sound sound ≡ true) where
  set_row : Row → Row
  set_row r = cond (is_at x r) (set_to settings sound r) r

  -- what is kept of a row that is set
  same_as : {A : Type 0} (f : Row → A) → ((r : Row) → f (set_to settings sound r) ≡ f r) →
      (r : Row) → f (set_row r) ≡ f r
  unfolding set_row
  same_as f same r = at_same f (is_at x r) (set_to settings sound r) r (same r)

  -- the row that is set is of a kind that may have these settings
  of_kind : (r : Row) → find (is_at r.serial) g.rows ≡ Some r → r.serial ≡ x →
      are_settings r.kind settings ≡ true
  of_kind r found same =
      let passes : option_map_or (λ s. is_input s.kind && are_settings s.kind settings) (Some r) false
      ≡ true =
      ap (λ o. option_map_or (λ s. is_input s.kind && are_settings s.kind settings) o false)
      (sym found ∙ ap (find_row g.rows) same) ∙ input in
      and_second _ _ passes

  fits_case : (r : Row) → find (is_at r.serial) g.rows ≡ Some r → (b : Bool) → is_at x r ≡ b →
      fits (cond b (set_to settings sound r) r) ≡ true
  fits_case r found true here =
      and_both _ _ (of_kind r found (eqb-true r.serial x here)) heard
  fits_case r found false there =
      (found_passes (is_at r.serial) fits g.rows r found shape.parts.rows.settings_fit).1

  set_rows : list_all fits (map set_row g.rows) ≡ true
  unfolding set_row
  set_rows = list_all-map fits set_row g.rows
      ∙ all_rows (λ r. fits (set_row r)) 0 g.rows shape.parts.rows.serials_rise
      (λ r found. fits_case r found (is_at x r) refl)

  pub set_shape : EditedShape (input_set x settings sound g)
  unfolding input_set set_row
  set_shape =
      let b : Blind set_row = blind_at x (set_to settings sound) (blind_set settings sound) in
      let past : Row → Bool = λ r. nat_le r.since g.clock in
      let placed : Row → Bool = λ r. list_all (λ i. is_place i.place) r.items in
      edited_of (input_set x settings sound g) (kept_shape set_row b g shape
      (names_kept set_row b g shape (same_as (λ r. r.name) (λ r. refl)))
      (all_rows_same set_row b past past (same_as past (λ r. refl)) g.rows ∙ shape.since_past)
      set_rows
      (all_rows_same set_row b placed placed (same_as placed (λ r. refl)) g.rows
      ∙ shape.parts.rows.places_fit))

-- two names that differ, either way round
pub other_name : (a b : List ℕ) → bytes_eq a b ≡ false → bytes_eq b a ≡ false
other_name a b other = false_from_ne_true _ (λ is. both_ways _ other
    ((bytes_eq-Decides a b).1 (sym ((bytes_eq-Decides b a).0 is))))

-- no named row has a name that isn't taken
free_case : (g : GraphState) (name : List ℕ) (o : Option Row) → find_named g name ≡ o →
    named_row_or_none g o ≡ false → o ≡ None
free_case g name None found free = refl
free_case g name (Some r) found free =
    let named : is_named_row g r ≡ true = and_first _ _
    (found_test (λ r. is_named_row g r && bytes_eq r.name name) g.rows r found) in
    let never : true ≡ false = sym named ∙ free in cc

none_found : {X : Type 0} (p q : X → Bool) (xs : List X) → find (λ x. p x && q x) xs ≡ None →
    list_all (λ x. not (q x)) (filter p xs) ≡ true
none_found p q [] none = refl
none_found {X} p q (x ∷ xs) none = here (none_found p q xs) (p x) (q x) refl none
  where
    here : (find (λ x. p x && q x) xs ≡ None → list_all (λ x. not (q x)) (filter p xs) ≡ true) →
        (b c : Bool) → q x ≡ c → cond (b && c) (Some x) (find (λ x. p x && q x) xs) ≡ None →
        list_all (λ x. not (q x)) (cond b (x ∷ filter p xs) (filter p xs)) ≡ true
    here rest true true same h = cc
    here rest true false same h = and_both _ _ (ap not same) (rest h)
    here rest false c same h = rest h

-- no named row has this name
pub name_free : (g : GraphState) (name : List ℕ) → has_name g name ≡ false →
    list_all (λ r. not (bytes_eq r.name name)) (filter (is_named_row g) g.rows) ≡ true
name_free g name free =
    none_found (is_named_row g) (λ r. bytes_eq r.name name) g.rows
    (free_case g name (find_named g name) refl free)

-- rows of which one is given a name
module _ (x : ℕ) (name : List ℕ) where
  named_row : Row → Row
  named_row r = cond (is_at x r) (named_as name r) r

  -- rows of other serials stay
  others_stay : (rows : List Row) → has x (serials_of rows) ≡ false → map named_row rows ≡ rows
  unfolding named_row
  others_stay [] none = refl
  others_stay (r ∷ rows) none =
      let both = or_parts (is_at x r) (has x (serials_of rows)) none in
      rw (both.0, others_stay rows both.1)

  -- another name doesn't come where it wasn't
  any_named : (other : List ℕ) → bytes_eq name other ≡ false → (rows : List Row) →
      list_any (λ s. bytes_eq s.name other) rows ≡ false →
      list_any (λ s. bytes_eq s.name other) (map named_row rows) ≡ false
  unfolding named_row
  any_named other free [] none = refl
  any_named other free (r ∷ rows) none =
      let both = or_parts (bytes_eq r.name other) _ none in
      or_from _ _ (cond_both (is_at x r) (named_as name r) r
      (λ (t : Row). bytes_eq t.name other ≡ false) (λ here. free) (λ there. both.0))
      (any_named other free rows both.1)

  -- names still differ
  named_differ : (rows : List Row) → names_differ rows ≡ true →
      list_all (λ r. not (bytes_eq r.name name)) rows ≡ true →
      is_distinct (serials_of rows) ≡ true → names_differ (map named_row rows) ≡ true
  unfolding named_row
  named_differ [] differ free once = refl
  named_differ (r ∷ rows) differ free once =
      here (is_at x r) refl
      (named_differ rows (and_second _ _ differ) (and_second _ _ free) (and_second _ _ once))
    where
      here : (b : Bool) → is_at x r ≡ b → names_differ (map named_row rows) ≡ true →
          names_differ (cond b (named_as name r) r ∷ map named_row rows) ≡ true
      here true same rest =
          let none : has x (serials_of rows) ≡ false =
          ap (λ y. has y (serials_of rows)) (sym (eqb-true r.serial x same))
          ∙ not-true _ (and_first _ _ once) in
          rw (others_stay rows none) (and_both _ _ (not_from_false _
          (all_none (λ (s : Row). bytes_eq s.name name) rows (and_second _ _ free)))
          (and_second _ _ differ))
      here false same rest = and_both _ _ (not_from_false _
          (any_named r.name (other_name r.name name (not-true _ (and_first _ _ free)))
          rows (not-true _ (and_first _ _ differ)))) rest

module _ (x : ℕ) (name : List ℕ) (g : GraphState) (shape : GraphShape g)
    (free : has_name g name ≡ false) where
  -- what is kept of a row that is named
  named_as_was : {A : Type 0} (f : Row → A) → ((r : Row) → f (named_as name r) ≡ f r) →
      (r : Row) → f (named_row x name r) ≡ f r
  unfolding named_row
  named_as_was f same r = at_same f (is_at x r) (named_as name r) r (same r)

  pub renamed_shape : EditedShape (renamed x name g)
  unfolding renamed named_row
  renamed_shape =
      let h : Row → Row = named_row x name in
      let b : Blind h = blind_at x (named_as name) (blind_named name) in
      let past : Row → Bool = λ r. nat_le r.since g.clock in
      let placed : Row → Bool = λ r. list_all (λ i. is_place i.place) r.items in
      edited_of (renamed x name g) (kept_shape h b g shape
      (ap names_differ (filter_changed (is_named_row (renamed x name g)) (is_named_row g) h
      (named_same h b g) g.rows)
      ∙ named_differ x name (filter (is_named_row g) g.rows) shape.names (name_free g name free)
      (times_fewer (λ (r : Row). r.serial) (is_named_row g) g.rows
      (rises_distinct 0 (serials_of g.rows) shape.parts.rows.serials_rise)))
      (all_rows_same h b past past (named_as_was past (λ r. refl)) g.rows ∙ shape.since_past)
      (all_rows_same h b fits fits (named_as_was fits (λ r. refl)) g.rows
      ∙ shape.parts.rows.settings_fit)
      (all_rows_same h b placed placed (named_as_was placed (λ r. refl)) g.rows
      ∙ shape.parts.rows.places_fit))

-- of a named row the other case is left
pub not_missing : {A : Type 0} (g : GraphState) (x : ℕ) → is_named g x ≡ true →
    IsTrue (is_missing g x) ⊎ A → A
not_missing g x named (inl missing) =
    let never : false ≡ true = sym (ap not named) ∙ missing in cc
not_missing g x named (inr rest) = rest

-- a row more, whose name none of them has
differ_row : (rows : List Row) (n : Row) → names_differ rows ≡ true →
    list_any (λ r. bytes_eq r.name n.name) rows ≡ false → names_differ (rows ++ n ∷ []) ≡ true
differ_row [] n differ free = refl
differ_row (r ∷ rows) n differ free =
    let both = or_parts (bytes_eq r.name n.name) _ free in
    and_both _ _ (not_from_false _ (list_any-append (λ s. bytes_eq s.name r.name) rows (n ∷ [])
    ∙ or_from _ _ (not-true _ (and_first _ _ differ))
    (or_from _ _ (other_name r.name n.name both.0) refl)))
    (differ_row rows n (and_second _ _ differ) both.1)

-- the names of old rows that are still named, and the new one
pub names_grown : (g : GraphState) → GraphShape g → (name : List ℕ) → has_name g name ≡ false →
    (q : Row → Bool) → ((r : Row) → nat_lt r.serial g.next_serial ≡ true → q r ≡ true →
    is_named_row g r ≡ true) → (n : Row) → n.name ≡ name →
    names_differ (filter q (g.rows ++ n ∷ [])) ≡ true
names_grown g shape name free q imply n own =
    let t : Row → Bool = λ r. nat_lt r.serial g.next_serial in
    let all : list_all t g.rows ≡ true =
    sym (list_all-map (λ x. nat_lt x g.next_serial) (λ (r : Row). r.serial) g.rows)
    ∙ shape.parts.rows.serials_below in
    let both : (r : Row) → (t r && q r) ≡ true → is_named_row g r ≡ true =
    λ r h. imply r (and_first _ _ h) (and_second _ _ h) in
    let within : filter q g.rows ≡ filter (λ r. t r && q r) g.rows =
    ap (filter q) (sym (filter_all t g.rows all)) ∙ filter_both q t g.rows in
    let old : names_differ (filter q g.rows) ≡ true = ap names_differ within
    ∙ differ_fewer (is_named_row g) (λ r. t r && q r) both g.rows shape.names in
    let other : Row → Bool = λ r. not (bytes_eq r.name n.name) in
    let none : list_any (λ r. bytes_eq r.name n.name) (filter q g.rows) ≡ false =
    all_none (λ r. bytes_eq r.name n.name) (filter q g.rows)
    (ap (list_all other) (within
    ∙ sym (part_within (is_named_row g) (λ r. t r && q r) both g.rows))
    ∙ all_filter other (λ r. t r && q r) (filter (is_named_row g) g.rows)
    (ap (λ m. list_all (λ (r : Row). not (bytes_eq r.name m)) (filter (is_named_row g) g.rows)) own
    ∙ name_free g name free)) in
    ap names_differ (filter-append q g.rows (n ∷ []))
    ∙ end_case (q n) (filter q g.rows) old none
  where
    end_case : (b : Bool) (rows : List Row) → names_differ rows ≡ true →
        list_any (λ r. bytes_eq r.name n.name) rows ≡ false →
        names_differ (rows ++ cond b (n ∷ []) []) ≡ true
    end_case true rows differ none = differ_row rows n differ none
    end_case false rows differ none = ap names_differ (append-nil rows) ∙ differ

-- what is registered was given before
registry_row : (g : GraphState) → PartsFit g → (y : ℕ) → has y (registry g) ≡ true →
    is_row g y ≡ true
registry_row g parts y here =
    elim (or_cases (has y g.scenes) (has y g.inputs) (sym (has_append y g.scenes g.inputs) ∙ here)) [
      | inl scene ↦ passed_some is_scene (find_row g.rows y)
          (member_passes (row_passes g (λ r. is_scene r.kind)) y g.scenes scene
          parts.registry.scenes_scenes)
      | inr input ↦ passed_some is_input (find_row g.rows y)
          (member_passes (row_passes g (λ r. is_input r.kind)) y g.inputs input
          parts.registry.inputs_inputs)
    ]

pub next_unlisted : (g : GraphState) → PartsFit g → has g.next_serial (registry g) ≡ false
next_unlisted g parts = false_from_ne_true _ (λ here. both_ways _
    (below_absent g.next_serial (serials_of g.rows) parts.rows.serials_below)
    (sym (row_is_listed g.rows g.next_serial) ∙ registry_row g parts g.next_serial here))

-- a list with one more
pub has_more : (n y : ℕ) (xs : List ℕ) → has y xs ≡ true → has y (xs ++ n ∷ []) ≡ true
has_more n y xs here = has_append y xs (n ∷ []) ∙ or_left _ _ here

pub has_last : (n : ℕ) (xs : List ℕ) → has n (xs ++ n ∷ []) ≡ true
has_last n xs = has_append n xs (n ∷ []) ∙ or_right _ _ (or_left _ _ (eq-eqb n n refl))

has_less : (n y : ℕ) (xs : List ℕ) → (n == y) ≡ false → has y (xs ++ n ∷ []) ≡ true →
    has y xs ≡ true
has_less n y xs other = any_last (λ z. z == y) xs n (has y xs ≡ true) (λ old. old)
    (λ new. absurd (both_ways _ other new))

-- the registry with a scene or an input more
module _ (n y : ℕ) (scenes inputs : List ℕ) where
  pub scene_more : has y (scenes ++ inputs) ≡ true → has y ((scenes ++ n ∷ []) ++ inputs) ≡ true
  scene_more here = has_append y (scenes ++ n ∷ []) inputs
      ∙ or_imply _ _ _ _ (has_more n y scenes) (λ i. i) (sym (has_append y scenes inputs) ∙ here)

  pub scene_less : (n == y) ≡ false → has y ((scenes ++ n ∷ []) ++ inputs) ≡ true →
      has y (scenes ++ inputs) ≡ true
  scene_less other here = has_append y scenes inputs
      ∙ or_imply _ _ _ _ (has_less n y scenes other) (λ i. i)
      (sym (has_append y (scenes ++ n ∷ []) inputs) ∙ here)

  pub input_more : has y (scenes ++ inputs) ≡ true → has y (scenes ++ (inputs ++ n ∷ [])) ≡ true
  input_more here = has_append y scenes (inputs ++ n ∷ [])
      ∙ or_imply _ _ _ _ (λ s. s) (has_more n y inputs) (sym (has_append y scenes inputs) ∙ here)

  pub input_less : (n == y) ≡ false → has y (scenes ++ (inputs ++ n ∷ [])) ≡ true →
      has y (scenes ++ inputs) ≡ true
  input_less other here = has_append y scenes inputs
      ∙ or_imply _ _ _ _ (λ s. s) (has_less n y inputs other)
      (sym (has_append y scenes (inputs ++ n ∷ [])) ∙ here)

pub scene_there : (n : ℕ) (scenes inputs : List ℕ) → has n ((scenes ++ n ∷ []) ++ inputs) ≡ true
scene_there n scenes inputs = has_append n (scenes ++ n ∷ []) inputs
    ∙ or_left _ _ (has_last n scenes)

pub input_there : (n : ℕ) (scenes inputs : List ℕ) → has n (scenes ++ (inputs ++ n ∷ [])) ≡ true
input_there n scenes inputs = has_append n scenes (inputs ++ n ∷ [])
    ∙ or_right _ _ (has_last n inputs)
