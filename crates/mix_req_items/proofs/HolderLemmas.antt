-- The scene or group that a name finds.
use Rattle.std.proofs.Common.{◌≡◌, ◌∙◌, ℕ, List, true, false, Option, Some, None, Ok, Err, refl}
use Rattle.std.proofs.Common.{sym, ap, subst, option_map}
use Rattle.std.specs.Option.{IsSomeAnd}
use Rattle.mix_model.specs.declared.kind.Kind.{Kind}
use Rattle.mix_model.specs.declared.row.Row.{Row}
use Rattle.mix_model.specs.declared.row.RowView.{RowView}
use Rattle.mix_model.specs.Holders.{find_named, is_named, named_row_or_none}
use Rattle.mix_model.specs.Lookups.{row_of}
use Rattle.mix_model.specs.Rows.{has_items}
use Rattle.mix_model.specs.Shape.{GraphShape}
use Rattle.mix_model.specs.State.{GraphState}
use Rattle.mix_model.specs.Views.{IsView}
use Rattle.mix_model.proofs.SetLemmas.{and_first, found_test}
use Rattle.mix_shape.proofs.MarkedLemmas.{found_row, found_by}
use Rattle.mix_requests.specs.Sought.{of_sort}
use Rattle.mix_req_items.specs.Finding.{holder_sought, source_sought}

-- the row of a serial that a name gives
module _ (g : GraphState) (shape : GraphShape g) (name : List ℕ) (x : ℕ)
    (finds : Some x ≡ option_map (λ (r : Row). r.serial) (find_named g name)) where
  the_row : (r : Row) × (find_named g name ≡ Some r) × (r.serial ≡ x)
  the_row = found_by (find_named g name) x finds

  stands : row_of g x ≡ Some the_row.0
  stands = subst (λ y. row_of g y ≡ Some the_row.0) the_row.2
      (found_row _ 0 g.rows the_row.0 shape.parts.rows.serials_rise the_row.1)

  kind_seen : (view : RowView) → IsSomeAnd (row_of g x) (λ r. IsView r view) →
      view.kind ≡ the_row.0.kind
  kind_seen view shows =
      let seen : IsView the_row.0 view = subst (λ o. IsSomeAnd o (λ r. IsView r view)) stands shows in
      seen.kind

  -- it is the one that is sought, where it has items, and else it is refused
  pub holder_found : (view : RowView) → IsSomeAnd (row_of g x) (λ r. IsView r view) →
      has_items view.kind ≡ true → Ok x ≡ holder_sought g name
  unfolding holder_sought
  holder_found view shows holds =
      let is : has_items the_row.0.kind ≡ true = ap has_items (sym (kind_seen view shows)) ∙ holds in
      ap Ok (sym the_row.2)
      ∙ sym (ap (of_sort has_items) the_row.1 ∙ rw is refl)

  pub other_found : (view : RowView) → IsSomeAnd (row_of g x) (λ r. IsView r view) →
      has_items view.kind ≡ false → Err 602 ≡ holder_sought g name
  unfolding holder_sought
  other_found view shows other =
      let is : has_items the_row.0.kind ≡ false = ap has_items (sym (kind_seen view shows)) ∙ other in
      sym (ap (of_sort has_items) the_row.1 ∙ rw is refl)

  pub source_found : Ok x ≡ source_sought g name
  unfolding source_sought
  source_found = ap Ok (sym the_row.2)
      ∙ sym (ap (of_sort (λ (k : Kind). true)) the_row.1)

  pub found_named : is_named g x ≡ true
  found_named = ap (named_row_or_none g) stands
      ∙ and_first _ _ (found_test _ g.rows the_row.0 the_row.1)
