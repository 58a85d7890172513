-- The item of an id, looked for from the bottom.
use Rattle.std.proofs.Common.{◌≡◌, ◌∙◌, ◌≤◌, ◌<◌, ℕ, zero, suc, ◌+◌, List, [], ◌∷◌, length, drop}
use Rattle.std.proofs.Common.{Bool, true, false, cond, find, Option, Some, None, Ok, Err, option_map}
use Rattle.std.proofs.Common.{refl, sym, ap, arith}
use Rattle.std.specs.List.{slice_get}
use Rattle.std.specs.Option.{option_map_or}
use Rattle.std.proofs.Math.Seq.{drop-cons, drop-length}
use Rattle.std.proofs.lemmas.Bool.{eqb-true}
use Rattle.std.proofs.lemmas.Option.{slice_get_within, get_or_from_slice_get}
use Rattle.mix_json.specs.Fields.{or_status}
use Rattle.mix_model.specs.declared.item.Item.{Item}
use Rattle.mix_model.specs.Holders.{is_named}
use Rattle.mix_model.specs.Lookups.{item_at, items_of}
use Rattle.mix_model.specs.Rows.{has_id}
use Rattle.mix_model.specs.State.{GraphState}
use Rattle.mix_model.proofs.SetLemmas.{found_test}
use Rattle.mix_req_items.specs.Finding.{IsFound, found_at, index_in, item_sought, place_of}

-- what is left begins with what stands there
pub left_begins : {X : Type 0} (xs : List X) (i : ℕ) (x : X) → slice_get xs i ≡ Some x →
    drop i xs ≡ x ∷ drop (i + 1) xs
left_begins xs i x at =
    let after : suc i ≡ i + 1 = omega arith in
    drop-cons xs i x (slice_get_within xs i x at)
    ∙ ap (λ y. y ∷ drop (suc i) xs) (get_or_from_slice_get xs i x x at)
    ∙ ap (λ j. x ∷ drop j xs) after

-- within a list something stands
within_some : {X : Type 0} (xs : List X) (k : ℕ) → k < length xs → slice_get xs k ≡ None → ⊥
within_some [] k within none = absurd (omega (arith, within))
within_some (x ∷ xs) zero within none = cc
within_some (x ∷ xs) (suc k) within none = within_some xs k (omega (arith, within)) none

-- ---- the loop

-- the place of the item of an id among those above so many
abbrev pub place_from : ℕ → ℕ → List Item → Option ℕ
place_from id below items =
    option_map (λ (i : Item). index_in id items + below) (find (has_id id) items)

passed : (id k : ℕ) (i : Item) (rest : List Item) → has_id id i ≡ false →
    place_from id (k + 1) rest ≡ place_from id k (i ∷ rest)
passed id k i rest other =
    let later : index_in id rest + (k + 1) ≡ (index_in id rest + 1) + k = omega arith in
    rw other (ap (λ n. option_map (λ (i : Item). n) (find (has_id id) rest)) later)

hit : (id k : ℕ) (i : Item) (rest : List Item) → has_id id i ≡ true →
    Some k ≡ place_from id k (i ∷ rest)
hit id k i rest same = let here : k ≡ 0 + k = omega arith in rw same (ap Some here)

-- an item of another id is passed over
pub item_passed : (id k : ℕ) (items : List Item) (o : Option Item) (all : Option ℕ) →
    slice_get items k ≡ o → k < length items → option_map_or (has_id id) o false ≡ false →
    place_from id k (drop k items) ≡ all → place_from id (k + 1) (drop (k + 1) items) ≡ all
item_passed id k items None all at within other before = absurd (within_some items k within at)
item_passed id k items (Some i) all at within other before =
    passed id k i (drop (k + 1) items) other
    ∙ ap (place_from id k) (sym (left_begins items k i at)) ∙ before

-- the first item of the id is the one
pub item_hit : (id k : ℕ) (items : List Item) (o : Option Item) (all : Option ℕ) →
    slice_get items k ≡ o → option_map_or (has_id id) o false ≡ true →
    place_from id k (drop k items) ≡ all → Some k ≡ all
item_hit id k items None all at same before = cc
item_hit id k items (Some i) all at same before =
    hit id k i (drop (k + 1) items) same
    ∙ ap (place_from id k) (sym (left_begins items k i at)) ∙ before

-- past the last there is none
pub none_hit : (id k : ℕ) (items : List Item) (all : Option ℕ) → k ≡ length items →
    place_from id k (drop k items) ≡ all → None ≡ all
none_hit id k items all end before =
    ap (place_from id k) (sym (ap (λ n. drop n items) end ∙ drop-length items)) ∙ before

-- none lies below the lowest
pub from_bottom : (g : GraphState) (holder id : ℕ) →
    place_from id 0 (drop 0 (items_of g holder)) ≡ place_of g holder id
from_bottom g holder id =
    let none : index_in id (items_of g holder) + 0 ≡ index_in id (items_of g holder) = omega arith in
    ap (λ n. option_map (λ (i : Item). n) (item_at g holder id)) none

-- ---- what stands at the place

at_place : (id : ℕ) (items : List Item) (i : Item) → find (has_id id) items ≡ Some i →
    slice_get items (index_in id items) ≡ Some i
at_place id [] i found = cc
at_place id (j ∷ items) i found = (elim (has_id id j) as (λ b.
    cond b (Some j) (find (has_id id) items) ≡ Some i →
    slice_get (j ∷ items) (cond b 0 (index_in id items + 1)) ≡ Some i) [
      | true ↦ λ here. here
      | false ↦ λ there.
          let next : index_in id items + 1 ≡ suc (index_in id items) = omega arith in
          ap (slice_get (j ∷ items)) next ∙ at_place id items i there
    ]) found

place_case : (n k : ℕ) (o : Option Item) → Some k ≡ option_map (λ (i : Item). n) o →
    (i : Item) × (o ≡ Some i) × (k ≡ n)
place_case n k None is = cc
place_case n k (Some i) is = (i, refl, cc)

none_case : (n h : ℕ) (o : Option Item) → None ≡ option_map (λ (i : Item). n) o →
    Err 600 ≡ or_status 600 (option_map (found_at h n) o)
none_case n h None is = refl
none_case n h (Some i) is = cc

-- without a place there is no item
pub none_sought : (g : GraphState) (holder id : ℕ) → None ≡ place_of g holder id →
    Err 600 ≡ item_sought g holder id
unfolding item_sought
none_sought g holder id is =
    none_case (index_in id (items_of g holder)) holder (item_at g holder id) is

module _ (g : GraphState) (holder id k : ℕ) (is : Some k ≡ place_of g holder id) where
  the_item : (i : Item) × (item_at g holder id ≡ Some i) × (k ≡ index_in id (items_of g holder))
  the_item = place_case (index_in id (items_of g holder)) k (item_at g holder id) is

  stands : slice_get (items_of g holder) k ≡ Some the_item.0
  stands = ap (slice_get (items_of g holder)) the_item.2
      ∙ at_place id (items_of g holder) the_item.0 the_item.1

  -- at its place it stands
  pub never_none : slice_get (items_of g holder) k ≡ None → Err 600 ≡ item_sought g holder id
  never_none none = let never : Some the_item.0 ≡ None = sym stands ∙ none in cc

  module _ (i : Item) (at : slice_get (items_of g holder) k ≡ Some i) where
    item_is : item_at g holder id ≡ Some i
    item_is = the_item.1 ∙ (sym stands ∙ at)

    pub item_sought_is : Ok (found_at holder k i) ≡ item_sought g holder id
    unfolding item_sought
    item_sought_is = ap (λ n. Ok (found_at holder n i)) the_item.2
        ∙ sym (ap (λ o. or_status 600 (option_map (found_at holder (index_in id (items_of g holder))) o))
        item_is)

    -- and by its own id it is found again
    pub item_found : is_named g holder ≡ true → IsFound g (found_at holder k i)
    item_found named = record {
      named = named;
      item = ap (λ n. item_at g holder n)
          (eqb-true i.id id (found_test (has_id id) (items_of g holder) i item_is)) ∙ item_is;
    }
