-- The scene that a name finds.
use Rattle.std.proofs.Common.{◌≡◌, ◌∙◌, ℕ, List, [], true, false}
use Rattle.std.proofs.Common.{Option, Some, None, Ok, Err, refl, sym, ap, subst}
use Rattle.std.proofs.Common.{option_map, length}
use Rattle.std.specs.Option.{IsSomeAnd}
use Rattle.std.specs.Option.{option_map_or}
use Rattle.mix_model.specs.declared.row.Row.{Row}
use Rattle.mix_model.specs.declared.row.RowView.{RowView}
use Rattle.mix_model.specs.Holders.{find_named, is_named, named_row_or_none}
use Rattle.mix_model.specs.Lookups.{items_of, items_or_none, row_of}
use Rattle.mix_model.specs.Rows.{is_scene}
use Rattle.mix_model.specs.Sets.{has}
use Rattle.mix_model.specs.Shape.{GraphShape}
use Rattle.mix_model.specs.State.{GraphState}
use Rattle.mix_model.specs.Views.{IsView}
use Rattle.mix_model.proofs.SetLemmas.{and_first, found_test, or_right}
use Rattle.mix_shape.proofs.HoldShape.{scene_listed}
use Rattle.mix_requests.specs.Named.{name_at}
use Rattle.mix_requests.specs.Sought.{scene_sought, of_sort}
use Rattle.mix_shape.proofs.MarkedLemmas.{found_row, found_by}

-- what a look at a row shows
module _ (view : RowView) where
  name_shown : (o : Option Row) → IsSomeAnd o (λ r. IsView r view) →
      view.name.now ≡ option_map_or (λ r. r.name) o []
  name_shown None shows = absurd shows
  name_shown (Some r) shows = shows.name

  items_shown : (o : Option Row) → IsSomeAnd o (λ r. IsView r view) →
      view.items ≡ length (items_or_none o)
  items_shown None shows = absurd shows
  items_shown (Some r) shows = shows.items

  pub name_seen : (g : GraphState) (x : ℕ) → IsSomeAnd (row_of g x) (λ r. IsView r view) →
      view.name.now ≡ name_at g x
  unfolding name_at
  name_seen g x shows = name_shown (row_of g x) shows

  pub items_seen : (g : GraphState) (x : ℕ) → IsSomeAnd (row_of g x) (λ r. IsView r view) →
      view.items ≡ length (items_of g x)
  items_seen g x shows = items_shown (row_of g x) shows

-- the row of a serial that a name gives
module _ (g : GraphState) (shape : GraphShape g) (name : List ℕ) (x : ℕ)
    (finds : Some x ≡ option_map (λ (r : Row). r.serial) (find_named g name)) where
  the_row : (r : Row) × (find_named g name ≡ Some r) × (r.serial ≡ x)
  the_row = found_by (find_named g name) x finds

  stands : row_of g x ≡ Some the_row.0
  stands = subst (λ y. row_of g y ≡ Some the_row.0) the_row.2
      (found_row _ 0 g.rows the_row.0 shape.parts.rows.serials_rise the_row.1)

  pub is_there : row_of g x ≡ None → ⊥
  is_there none = let never : Some the_row.0 ≡ None = sym stands ∙ none in cc

  kind_seen : (view : RowView) → IsSomeAnd (row_of g x) (λ r. IsView r view) →
      view.kind ≡ the_row.0.kind
  kind_seen view shows =
      let seen : IsView the_row.0 view = subst (λ o. IsSomeAnd o (λ r. IsView r view)) stands shows in
      seen.kind

  -- it is the scene that is sought, where it is a scene, and else it is refused
  pub scene_found : (view : RowView) → IsSomeAnd (row_of g x) (λ r. IsView r view) →
      is_scene view.kind ≡ true → Ok x ≡ scene_sought g name
  unfolding scene_sought
  scene_found view shows scene =
      let is : is_scene the_row.0.kind ≡ true = ap is_scene (sym (kind_seen view shows)) ∙ scene in
      ap Ok (sym the_row.2)
      ∙ sym (ap (of_sort is_scene) the_row.1 ∙ rw is refl)

  pub other_found : (view : RowView) → IsSomeAnd (row_of g x) (λ r. IsView r view) →
      is_scene view.kind ≡ false → Err 602 ≡ scene_sought g name
  unfolding scene_sought
  other_found view shows other =
      let is : is_scene the_row.0.kind ≡ false = ap is_scene (sym (kind_seen view shows)) ∙ other in
      sym (ap (of_sort is_scene) the_row.1 ∙ rw is refl)

  found_named : is_named g x ≡ true
  found_named = ap (named_row_or_none g) stands
      ∙ and_first _ _ (found_test _ g.rows the_row.0 the_row.1)

  -- such a scene is in the registry
  pub scene_registered : (view : RowView) → IsSomeAnd (row_of g x) (λ r. IsView r view) →
      is_scene view.kind ≡ true → has x g.scenes ≡ true
  scene_registered view shows scene = scene_listed g shape x found_named
      (or_right _ _ (ap (λ o. option_map_or (λ (t : Row). is_scene t.kind) o false) stands
      ∙ ap is_scene (sym (kind_seen view shows)) ∙ scene))
