-- What is found in the tree of the tests is valid.
use Rattle.std.proofs.Common.{◌≡◌, ℕ, zero, suc, ◌<◌, refl, sym, ap, ◌∙◌, Bool, true, false}
use Rattle.std.proofs.Common.{cond, ◌&&◌, nat_lt, ltb-true, List, [], ◌∷◌, length, find, ◌==◌, ◌||◌}
use Rattle.std.proofs.Common.{Option, Some, None, IfSome}
use Rattle.std.specs.Prelude.{slice_get}
use Rattle.std.specs.List.{list_all}
use Rattle.mix_model.specs.declared.item.Item.{Item}
use Rattle.mix_model.specs.declared.row.Row.{Row}
use Rattle.mix_model.specs.declared.row.RowView.{RowView}
use Rattle.mix_model.specs.Rows.{is_at, has_items}
use Rattle.mix_model.specs.Lookups.{has_row, find_row, items_in, items_or_none}
use Rattle.mix_model.specs.Shape.{is_bare}
use Rattle.mix_model.specs.Values.{are_settings, are_of_kind, are_valid, is_sound, is_place, new_place, new_sound}
use Rattle.mix_model.specs.Views.{IsView, IsValidView}
use Rattle.mix_model.proofs.SetLemmas.{and_first, and_second}
use Rattle.mix_test_pictures.specs.Small.{is_fine_item, is_fine_row, are_fine, small_rows}

-- what is found passes what all pass
found_passes : {X : Type 0} (test want : X → Bool) (xs : List X) (x : X) →
    list_all test xs ≡ true → find want xs ≡ Some x → test x ≡ true
found_passes {X = X} test want [] x all is = cc
found_passes {X = X} test want (y ∷ xs) x all is =
    by_want (want y) (found_passes test want xs x (and_second _ _ all)) is where
      some_of : Option X → X
      some_of None = y
      some_of (Some z) = z

      by_want : (b : Bool) → (find want xs ≡ Some x → test x ≡ true) →
          cond b (Some y) (find want xs) ≡ Some x → test x ≡ true
      by_want true later here = sym (ap test (ap some_of here)) ∙ and_first _ _ all
      by_want false later there = later there

-- so does what stands at a place
placed_passes : {X : Type 0} (test : X → Bool) (xs : List X) (place : ℕ) (x : X) →
    list_all test xs ≡ true → slice_get xs place ≡ Some x → test x ≡ true
placed_passes {X = X} test [] place x all is = cc
placed_passes {X = X} test (y ∷ xs) zero x all is = sym (ap test (ap some_of is)) ∙ and_first _ _ all where
  some_of : Option X → X
  some_of None = y
  some_of (Some z) = z
placed_passes {X = X} test (y ∷ xs) (suc place) x all is =
    placed_passes test xs place x (and_second _ _ all) is

pub row_fine : (rows : List Row) (serial : ℕ) (row : Row) → are_fine rows ≡ true →
    find_row rows serial ≡ Some row → is_fine_row rows row ≡ true
row_fine rows serial row fine is = found_passes (is_fine_row rows) (is_at serial) rows row fine is

pub few_items : (rows : List Row) (serial : ℕ) (row : Row) → are_fine rows ≡ true →
    find_row rows serial ≡ Some row → length row.items < 256
few_items rows serial row fine is = ltb-true (length row.items) 256
    (and_second (are_settings row.kind row.settings && is_sound row.sound && is_bare row)
    (nat_lt (length row.items) 256)
    (and_first _ (list_all (is_fine_item rows) row.items) (row_fine rows serial row fine is)))

pub view_valid : (rows : List Row) (serial : ℕ) (row : Row) (view : RowView) →
    are_fine rows ≡ true → find_row rows serial ≡ Some row → IsView row view → IsValidView view
view_valid rows serial row view fine is seen = record {
  settings = ap (λ k. are_settings k view.settings.now) seen.kind
      ∙ ap (are_settings row.kind) seen.settings ∙ and_first _ (is_sound row.sound) both;
  sound = ap is_sound seen.sound
      ∙ and_second (are_settings row.kind row.settings) (is_sound row.sound) both;
  bare = ap (λ k. has_items k || (view.items == 0)) seen.kind
      ∙ ap (λ n. has_items row.kind || (n == 0)) seen.items ∙ and_second _ (is_bare row) three;
} where
  values : (are_settings row.kind row.settings && is_sound row.sound && is_bare row
      && nat_lt (length row.items) 256) ≡ true
  values = and_first _ (list_all (is_fine_item rows) row.items) (row_fine rows serial row fine is)

  three : (are_settings row.kind row.settings && is_sound row.sound && is_bare row) ≡ true
  three = and_first _ (nat_lt (length row.items) 256) values

  both : (are_settings row.kind row.settings && is_sound row.sound) ≡ true
  both = and_first _ (is_bare row) three

pub item_fine : (rows : List Row) (parent place : ℕ) (item : Item) → are_fine rows ≡ true →
    slice_get (items_in rows parent) place ≡ Some item → is_fine_item rows item ≡ true
item_fine rows parent place item fine is =
    by_row (find_row rows parent) (λ row found. row_fine rows parent row fine found) is where
      by_row : (found : Option Row) →
          ((row : Row) → found ≡ Some row → is_fine_row rows row ≡ true) →
          slice_get (items_or_none found) place ≡ Some item → is_fine_item rows item ≡ true
      by_row None all at_place = cc
      by_row (Some row) all at_place = placed_passes (is_fine_item rows) row.items place item
          (and_second _ (list_all (is_fine_item rows) row.items) (all row refl)) at_place

-- of an item at a place, where there is one
pub item_placed : (rows : List Row) (parent place : ℕ) (result : Option Item) →
    are_fine rows ≡ true → result ≡ slice_get (items_in rows parent) place →
    IfSome result (λ item. is_place item.place ≡ true)
item_placed rows parent place None fine is = tt
item_placed rows parent place (Some item) fine is =
    and_first (is_place item.place) (has_row rows item.child)
    (item_fine rows parent place item fine (sym is))

pub child_known : (rows : List Row) (parent place : ℕ) (result : Option Item) →
    are_fine rows ≡ true → result ≡ slice_get (items_in rows parent) place →
    IfSome result (λ item. has_row rows item.child ≡ true)
child_known rows parent place None fine is = tt
child_known rows parent place (Some item) fine is =
    and_second (is_place item.place) (has_row rows item.child)
    (item_fine rows parent place item fine (sym is))

-- the sources of the tests are as they should be
pub rows_fine : (name : List ℕ) → are_fine (small_rows name) ≡ true
unfolding small_rows are_of_kind are_valid is_sound is_place new_place new_sound
rows_fine name = refl
