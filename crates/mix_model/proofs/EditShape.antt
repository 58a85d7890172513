-- Edits that keep what holds of the sources.
use Rattle.std.proofs.Common.{◌≡◌, ℕ, ◌≤◌, ◌&&◌, Bool, true, false, cond, List, [], ◌∷◌, map}
use Rattle.std.proofs.Common.{Option, Some, None, refl, ◌∙◌, arith, nat_le, leb-true}
use Rattle.std.specs.List.{list_all}
use Rattle.std.specs.Option.{option_map_or}
use Rattle.mix_model.specs.declared.kind.Blend.{Blend}
use Rattle.mix_model.specs.declared.place.Place.{Place}
use Rattle.mix_model.specs.declared.item.Item.{Item}
use Rattle.mix_model.specs.declared.row.Row.{Row}
use Rattle.mix_model.specs.Rows.{is_at, has_id, all_items}
use Rattle.mix_model.specs.Items.{with_item_changed, enabled_as, locked_as, placed_at}
use Rattle.mix_model.specs.State.{GraphState}
use Rattle.mix_model.specs.Lookups.{row_of}
use Rattle.mix_model.specs.Values.{are_settings, is_sound, is_place}
use Rattle.mix_model.specs.Settle.{since_before}
use Rattle.mix_model.specs.Edits.{row_changed, item_enabled, item_locked, item_placed}
use Rattle.mix_model.specs.Shape.{GraphShape}
use Rattle.mix_model.specs.EditedShape.{EditedShape}
use Rattle.mix_model.proofs.SetLemmas.{found_passes, and_both, and_first, and_second}
use Rattle.mix_model.proofs.SteadyLemmas.{at_same}
use Rattle.mix_model.proofs.BlindLemmas.{Blind, blind_at, all_rows_same}
use Rattle.mix_model.proofs.KeptShape.{names_kept, kept_shape}

-- what holds of settled sources holds of them before the settling, too
pub edited_of : (g : GraphState) → GraphShape g → EditedShape g
edited_of g shape = record { parts = shape.parts; limits = shape.limits; names = shape.names }

-- numbers of activity lie before each clock that didn't fall
found_past : (g : GraphState) → GraphShape g → (clock : ℕ) → g.clock ≤ clock → (x : ℕ)
    (o : Option Row) → row_of g x ≡ o → option_map_or (λ r. r.since) o 0 ≤ clock
found_past g shape clock later x None found = omega arith
found_past g shape clock later x (Some r) found =
    let passed = found_passes (is_at x) (λ s. nat_le s.since g.clock) g.rows r found
    shape.since_past in
    omega (arith, leb-true r.since g.clock passed.1, later)

pub sinces_before : (g : GraphState) → GraphShape g → (clock : ℕ) → g.clock ≤ clock → (x : ℕ) →
    since_before g x ≤ clock
sinces_before g shape clock later x = found_past g shape clock later x (row_of g x) refl

-- a change of an item that keeps its id and its child
module _ (id : ℕ) (change : Item → Item) (child : (i : Item) → (change i).child ≡ i.child)
    (same_id : (i : Item) → (change i).id ≡ i.id)
    (place : (i : Item) → is_place i.place ≡ true → is_place (change i).place ≡ true) where
  edit_place : (i : Item) (here : Bool) → is_place i.place ≡ true →
      is_place (cond here (change i) i).place ≡ true
  edit_place i true valid = place i valid
  edit_place i false valid = valid

  same_items : {A : Type 0} (f : Item → A) → ((i : Item) → f (change i) ≡ f i) →
      (items : List Item) → map f (map (λ i. cond (has_id id i) (change i) i) items) ≡ map f items
  same_items f same [] = refl
  same_items {A} f same (i ∷ items) = rw (here (has_id id i), same_items f same items)
    where
      here : (b : Bool) → f (cond b (change i) i) ≡ f i
      here true = same i
      here false = refl

  places_in : (items : List Item) → list_all (λ i. is_place i.place) items ≡ true →
      list_all (λ i. is_place i.place) (map (λ i. cond (has_id id i) (change i) i) items) ≡ true
  places_in [] all = refl
  places_in (i ∷ items) all = and_both _ _ (edit_place i (has_id id i) (and_first _ _ all))
      (places_in items (and_second _ _ all))

  blind_item : Blind (with_item_changed id change)
  unfolding with_item_changed
  blind_item = record {
    steady = record { serial = λ r. refl; kind = λ r. refl };
    children = λ r. same_items (λ i. i.child) child r.items;
    ids = λ r. same_items (λ i. i.id) same_id r.items;
    next = λ r. refl;
  }

  module _ (x : ℕ) where
    at_row : Row → Row
    at_row r = cond (is_at x r) (with_item_changed id change r) r

    fits : Row → Bool
    fits r = are_settings r.kind r.settings && is_sound r.sound

    place_row : (r : Row) (here : Bool) → list_all (λ i. is_place i.place) r.items ≡ true →
        list_all (λ i. is_place i.place) (cond here (with_item_changed id change r) r).items
        ≡ true
    unfolding with_item_changed
    place_row r true all = places_in r.items all
    place_row r false all = all

    places_rows : (rows : List Row) → all_items (λ r i. is_place i.place) rows ≡ true →
        all_items (λ r i. is_place i.place) (map at_row rows) ≡ true
    unfolding at_row
    places_rows [] all = refl
    places_rows (r ∷ rows) all = and_both _ _ (place_row r (is_at x r) (and_first _ _ all))
        (places_rows rows (and_second _ _ all))

    -- it keeps what holds of the sources
    pub item_edit_shape : (g : GraphState) → GraphShape g →
        GraphShape (row_changed x (with_item_changed id change) g)
    unfolding at_row fits with_item_changed
    item_edit_shape g shape =
        let b : Blind at_row = blind_at x (with_item_changed id change) blind_item in
        let past : Row → Bool = λ r. nat_le r.since g.clock in
        kept_shape at_row b g shape
        (names_kept at_row b g shape (λ r. at_same (λ (t : Row). t.name) (is_at x r)
        (with_item_changed id change r) r refl))
        (all_rows_same at_row b past past (λ r. at_same past (is_at x r)
        (with_item_changed id change r) r refl) g.rows ∙ shape.since_past)
        (all_rows_same at_row b fits fits (λ r. at_same fits (is_at x r)
        (with_item_changed id change r) r refl) g.rows ∙ shape.parts.rows.settings_fit)
        (places_rows g.rows shape.parts.rows.places_fit)

-- an item is enabled or not
pub enabled_shape : (x id : ℕ) (enabled : Bool) (g : GraphState) → GraphShape g →
    GraphShape (item_enabled x id enabled g)
unfolding item_enabled
enabled_shape x id enabled g shape =
    item_edit_shape id (enabled_as enabled) (λ i. refl) (λ i. refl) (λ i valid. valid) x g shape

-- locked or not
pub locked_shape : (x id : ℕ) (locked : Bool) (g : GraphState) → GraphShape g →
    GraphShape (item_locked x id locked g)
unfolding item_locked
locked_shape x id locked g shape =
    item_edit_shape id (locked_as locked) (λ i. refl) (λ i. refl) (λ i valid. valid) x g shape

-- and placed
pub placed_shape : (x id : ℕ) (place : Place) (blend : Blend) → is_place place ≡ true →
    (g : GraphState) → GraphShape g → GraphShape (item_placed x id place blend g)
unfolding item_placed
placed_shape x id place blend valid g shape =
    item_edit_shape id (placed_at place blend) (λ i. refl) (λ i. refl) (λ i old. valid) x g shape
