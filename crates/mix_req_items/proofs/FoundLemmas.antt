-- An item that was found: its scene or group and its source are rows, and their serials were given.
use Rattle.std.proofs.Common.{◌≡◌, ◌∙◌, ◌<◌, ◌&&◌, ◌^◌, ℕ, true, false, is_some, find, Option, Some}
use Rattle.std.proofs.Common.{None, Bool, refl, sym, ap, subst}
use Rattle.std.specs.List.{list_all}
use Rattle.std.proofs.lemmas.Bool.{eqb-true}
use Rattle.mix_model.specs.declared.item.Item.{Item}
use Rattle.mix_model.specs.declared.row.Row.{Row}
use Rattle.mix_model.specs.Lookups.{is_row, items_or_none, row_of}
use Rattle.mix_model.specs.Rows.{has_id, is_at}
use Rattle.mix_model.specs.Shape.{GraphShape, is_child}
use Rattle.mix_model.specs.State.{GraphState}
use Rattle.mix_model.specs.Values.{is_place}
use Rattle.mix_model.proofs.SetLemmas.{and_first, found_passes, found_test}
use Rattle.mix_shape.specs.Refused.{lacks_item}
use Rattle.mix_shape.proofs.GrownShape.{Named, named_is_row, named_row}
use Rattle.mix_requests.proofs.ProperLemmas.{found_below, short_below}
use Rattle.mix_req_items.specs.declared.found.Found.{Found}
use Rattle.mix_req_items.specs.Finding.{IsFound}

-- the serial of a row was given
pub row_below : (g : GraphState) → GraphShape g → (x : ℕ) → is_some (row_of g x) ≡ true →
    x < g.next_serial
row_below g shape x there = below (row_of g x) refl there
  where
    below : (o : Option Row) → row_of g x ≡ o → is_some o ≡ true → x < g.next_serial
    below None found there = cc
    below (Some r) found there = subst (λ y. y < g.next_serial)
        (eqb-true r.serial x (found_test (is_at x) g.rows r found))
        (found_below g shape (is_at x) r found)

module _ (g : GraphState) (shape : GraphShape g) (f : Found) (is : IsFound g f) where
  pub holder_there : is_some (row_of g f.holder) ≡ true
  holder_there = named_is_row g f.holder is.named

  pub holder_below : f.holder < g.next_serial
  holder_below = row_below g shape f.holder holder_there

  child_fits : (is_row g f.item.child && is_child g f.item.child) ≡ true
  child_fits =
      let n : Named g f.holder = named_row g f.holder is.named in
      let q : Item → Bool = λ i. is_row g i.child && is_child g i.child in
      let here : find (has_id f.item.id) n.row.items ≡ Some f.item =
      ap (λ o. find (has_id f.item.id) (items_or_none o)) (sym n.found) ∙ is.item in
      (found_passes (has_id f.item.id) q n.row.items f.item here
      (found_passes (is_at f.holder) (λ (r : Row). list_all q r.items) g.rows n.row n.found
      shape.parts.rows.children_rows).1).1

  pub child_there : is_some (row_of g f.item.child) ≡ true
  child_there = and_first _ _ child_fits

  pub child_below : f.item.child < g.next_serial
  child_below = row_below g shape f.item.child child_there

  -- its place is one
  pub place_fits : is_place f.item.place ≡ true
  place_fits =
      let n : Named g f.holder = named_row g f.holder is.named in
      let q : Item → Bool = λ i. is_place i.place in
      let here : find (has_id f.item.id) n.row.items ≡ Some f.item =
      ap (λ o. find (has_id f.item.id) (items_or_none o)) (sym n.found) ∙ is.item in
      (found_passes (has_id f.item.id) q n.row.items f.item here
      (found_passes (is_at f.holder) (λ (r : Row). list_all q r.items) g.rows n.row n.found
      shape.parts.rows.places_fit).1).1

  -- so they are short while serials can be given
  pub holder_short : g.next_serial < 4294967295 → f.holder < 2 ^ 48
  holder_short few = short_below g.next_serial f.holder few holder_below

  pub child_short : g.next_serial < 4294967295 → f.item.child < 2 ^ 48
  child_short few = short_below g.next_serial f.item.child few child_below

-- it isn't lacking
pub is_had : (g : GraphState) (f : Found) → IsFound g f →
    lacks_item g f.holder f.item.id ≡ true → false ≡ true
is_had g f is lacks =
    let had : lacks_item g f.holder f.item.id ≡ false = rw (is.named, is.item) refl in
    sym had ∙ lacks
