-- What a look-up finds, scenes of the registry, and what the marks of what stands tell.
use Rattle.std.proofs.Common.{◌≡◌, ◌<◌, ℕ, List, [], ◌∷◌, Bool, true, false, cond, ◌==◌, Option}
use Rattle.std.proofs.Common.{Some, None, refl, subst, arith, find, option_map, ◌∙◌, ◌||◌, ◌&&◌}
use Rattle.std.proofs.Common.{not, sym, ap, is_some, map, ◌++◌, eqb-true, flat_map}
use Rattle.std.proofs.lemmas.Bool.{eq-eqb, ne_eqb, ltb-true, eqb-true}
use Rattle.mix_model.specs.declared.row.Row.{Row}
use Rattle.mix_model.specs.Lookups.{find_row, row_of, registry, named_by}
use Rattle.mix_model.specs.Rows.{serials_of, is_at, is_scene}
use Rattle.mix_model.specs.Sets.{has, rises_above, agree}
use Rattle.mix_model.proofs.SetLemmas.{and_first, and_second, found_test, or_left, or_right}
use Rattle.std.specs.Option.{option_map_or}
use Rattle.std.specs.List.{list_any, list_all}
use Rattle.std.proofs.lemmas.List.Folds.{list_any-append}
use Rattle.mix_model.specs.Holders.{is_named, is_named_row, named_row_or_none}
use Rattle.mix_model.specs.Shape.{GraphShape}
use Rattle.mix_model.specs.State.{GraphState}
use Rattle.mix_model.proofs.DyingLemmas.{member_passes}
use Rattle.mix_shape.specs.Refused.{may_be_set, is_missing}
use Rattle.mix_model.specs.declared.change.Change.{Change}
use Rattle.mix_model.specs.declared.change.Change.TheVariants.{Active as ActiveNow}
use Rattle.mix_model.specs.declared.change.Change.TheVariants.{Showing as ShowingNow}
use Rattle.mix_model.specs.Walks.{is_active, is_showing}
use Rattle.mix_model.specs.Settle.{change_if}
use Rattle.mix_model.specs.Marks.{Mark, mark_of, marks_of, was_active, was_showing, changes_by}
use Rattle.mix_shape.specs.Begun.{BegunAs}

-- where serials rise, each row that a look-up finds has a serial above those passed over
later : (p : Row → Bool) (m : ℕ) (rows : List Row) (r : Row) →
    rises_above m (serials_of rows) ≡ true → find p rows ≡ Some r → m < r.serial
later p m [] r rises found = cc
later p m (s ∷ rows) r rises found =
    (elim (p s) as (λ b. cond b (Some s) (find p rows) ≡ Some r → m < r.serial) [
      | true ↦ λ here. let same : s ≡ r = cc in
          subst (λ (t : Row). m < t.serial) same (ltb-true m s.serial (and_first _ _ rises))
      | false ↦ λ there.
          let rest : s.serial < r.serial = later p s.serial rows r (and_second _ _ rises) there in
          let first : m < s.serial = ltb-true m s.serial (and_first _ _ rises) in omega arith
    ]) found

passed_over : (x : ℕ) (s : Row) (rows : List Row) (o : Option Row) → (s.serial == x) ≡ false →
    find_row rows x ≡ o → find_row (s ∷ rows) x ≡ o
passed_over x s rows o other found = rw other found

apart : (a b : ℕ) → a < b → (a == b) ≡ false
apart a b below = ne_eqb a b (λ same. omega (arith, below, same))

-- so its serial finds it again
pub found_row : (p : Row → Bool) (m : ℕ) (rows : List Row) (r : Row) →
    rises_above m (serials_of rows) ≡ true → find p rows ≡ Some r →
    find_row rows r.serial ≡ Some r
found_row p m [] r rises found = cc
found_row p m (s ∷ rows) r rises found =
    (elim (p s) as (λ b. cond b (Some s) (find p rows) ≡ Some r →
    find_row (s ∷ rows) r.serial ≡ Some r) [
      | true ↦ λ here. let same : s ≡ r = cc in
          subst (λ (t : Row). find_row (s ∷ rows) t.serial ≡ Some t) same
          (rw (eq-eqb s.serial s.serial refl))
      | false ↦ λ there. passed_over r.serial s rows (Some r)
          (apart s.serial r.serial (later p s.serial rows r (and_second _ _ rises) there))
          (found_row p s.serial rows r (and_second _ _ rises) there)
    ]) found

-- what a look-up finds, by its serial
pub found_by : (o : Option Row) (x : ℕ) → Some x ≡ option_map (λ r. r.serial) o →
    (r : Row) × (o ≡ Some r) × (r.serial ≡ x)
found_by None x is = cc
found_by (Some r) x is = (r, refl, cc)

some_case : (test : Row → Bool) (o : Option Row) → option_map_or test o false ≡ true →
    (r : Row) × (o ≡ Some r)
some_case test None passed = cc
some_case test (Some r) passed = (r, refl)

module _ (g : GraphState) (shape : GraphShape g) (x : ℕ) (here : has x g.scenes ≡ true) where
  pub scene_passes : option_map_or (λ r. is_scene r.kind) (row_of g x) false ≡ true
  scene_passes = member_passes _ x g.scenes here shape.parts.registry.scenes_scenes

  -- it is a row
  pub scene_row : (r : Row) × (row_of g x ≡ Some r)
  scene_row = some_case (λ r. is_scene r.kind) (row_of g x) scene_passes

  pub scene_there : is_some (row_of g x) ≡ true
  scene_there = ap is_some scene_row.1

  -- a named one
  pub scene_named : is_named g x ≡ true
  unfolding is_named_row
  scene_named =
      let same : scene_row.0.serial ≡ x = eqb-true scene_row.0.serial x
      (found_test (is_at x) g.rows scene_row.0 scene_row.1) in
      ap (named_row_or_none g) scene_row.1
      ∙ or_left _ _ (subst (λ y. has y (registry g) ≡ true) (sym same)
      (list_any-append (λ y. y == x) g.scenes g.inputs ∙ or_left _ _ here))

  pub scene_not_missing : list_any (is_missing g) (named_by (Some x, None)) ≡ true → ⊥
  scene_not_missing missing = none (is_named g x) scene_named missing
    where
      none : (b : Bool) → b ≡ true → (not b || false) ≡ true → ⊥
      none true is h = cc
      none false is h = cc

  -- channel 0 may name it
  pub scene_may_be_set : may_be_set g 0 (Some x, None) ≡ true
  scene_may_be_set = both (or_right _ _ scene_passes)
    where
      both : {b : Bool} → b ≡ true → (b && true) ≡ true
      both is = rw is refl

-- who is active was so
pub marked_row : (g : GraphState) (x : ℕ) (rows : List Row) →
    find (λ m. m.serial == x) (map (mark_of g) rows) ≡ option_map (mark_of g) (find (is_at x) rows)
marked_row g x [] = refl
marked_row g x (r ∷ rows) = elim (r.serial == x) as (λ b.
    cond b (Some (mark_of g r)) (find (λ m. m.serial == x) (map (mark_of g) rows))
    ≡ option_map (mark_of g) (cond b (Some r) (find (is_at x) rows))) [
      | true ↦ refl
      | false ↦ marked_row g x rows
    ]

pub active_of : (g : GraphState) (x : ℕ) (o : Option Row) → row_of g x ≡ o →
    option_map_or (λ (m : Mark). m.active) (option_map (mark_of g) o) false ≡ is_active g x
unfolding is_active
active_of g x None found = rw found refl
active_of g x (Some r) found =
    ap (is_active g) (eqb-true r.serial x (found_test (is_at x) g.rows r found))

-- what is marked is what is
pub marked_active : (g : GraphState) (x : ℕ) → was_active (marks_of g) x ≡ is_active g x
marked_active g x = ap (λ o. option_map_or (λ (m : Mark). m.active) o false) (marked_row g x g.rows)
    ∙ active_of g x (row_of g x) refl

showing_of : (g : GraphState) (x : ℕ) (o : Option Row) → row_of g x ≡ o →
    option_map_or (λ (m : Mark). m.showing) (option_map (mark_of g) o) false ≡ is_showing g x
unfolding is_showing
showing_of g x None found = rw found refl
showing_of g x (Some r) found =
    ap (is_showing g) (eqb-true r.serial x (found_test (is_at x) g.rows r found))

pub marked_showing : (g : GraphState) (x : ℕ) → was_showing (marks_of g) x ≡ is_showing g x
marked_showing g x = ap (λ o. option_map_or (λ (m : Mark). m.showing) o false)
    (marked_row g x g.rows) ∙ showing_of g x (row_of g x) refl

agree_same : (b : Bool) → agree b b ≡ true
agree_same true = refl
agree_same false = refl

pub all_agree : (was now : ℕ → Bool) → ((x : ℕ) → was x ≡ now x) → (rows : List Row) →
    list_all (λ r. agree (was r.serial) (now r.serial)) rows ≡ true
all_agree was now same [] = refl
all_agree was now same (r ∷ rows) =
    rw (same r.serial, agree_same (now r.serial)) (all_agree was now same rows)

-- so nothing has changed against marks of what stands
none_changed : (made : ℕ → Bool → Change) (was now : ℕ → Bool) → ((x : ℕ) → was x ≡ now x) →
    (rows : List Row) →
    flat_map (λ r. change_if made (was r.serial) (now r.serial) r.serial) rows ≡ []
none_changed made was now same [] = refl
none_changed made was now same (r ∷ rows) =
    rw (same r.serial, agree_same (now r.serial)) (none_changed made was now same rows)

neither : (xs ys : List Change) → xs ≡ [] → ys ≡ [] → xs ++ ys ≡ []
neither xs ys first second = rw (first, second) refl

pub nothing_changed : (g : GraphState) → changes_by (marks_of g) g g.rows ≡ []
nothing_changed g = neither _ _
    (none_changed ActiveNow (was_active (marks_of g)) (is_active g) (marked_active g) g.rows)
    (none_changed ShowingNow (was_showing (marks_of g)) (is_showing g) (marked_showing g) g.rows)

-- marks are by rising serial
marked_serials : (g : GraphState) (rows : List Row) →
    map (λ m. m.serial) (map (mark_of g) rows) ≡ serials_of rows
marked_serials g [] = refl
marked_serials g (r ∷ rows) = ap (λ xs. r.serial ∷ xs) (marked_serials g rows)

pub marks_rise : (marks : List Mark) (clock : ℕ) → BegunAs marks clock →
    rises_above 0 (map (λ m. m.serial) marks) ≡ true
marks_rise marks clock begun =
    ap (λ ms. rises_above 0 (map (λ (m : Mark). m.serial) ms)) begun.marks_are
    ∙ ap (rises_above 0) (marked_serials begun.old begun.old.rows) ∙ begun.shape.parts.rows.serials_rise
