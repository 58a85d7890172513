-- One row changed, and no other.
use Rattle.std.proofs.Common.{◌≡◌, ℕ, zero, suc, ◌+◌, ◌<◌, ◌≤◌, true, false, cond, List, [], ◌∷◌}
use Rattle.std.proofs.Common.{length, map, find, get_or, slice_set, refl, ap, sym, ◌∙◌, arith, Some}
use Rattle.std.proofs.Common.{None, ◌==◌, eqb-true, eq-eqb, subst}
use Rattle.std.proofs.lemmas.List.Sums.{sum_by-cons, sum_by-set}
use Rattle.mix_model.specs.declared.row.Row.{Row}
use Rattle.mix_model.specs.Sets.{has, is_distinct}
use Rattle.mix_model.specs.Rows.{is_at, has_id, new_row, serials_of}
use Rattle.mix_model.specs.Causes.{item_count}
use Rattle.mix_model.specs.State.{GraphState}
use Rattle.mix_store.specs.Searched.{InOrder}
use Rattle.mix_store.specs.RowEdits.{row_edited, item_edited}
use Rattle.mix_store.specs.declared.row_edit.RowEdit.TheVariants.{Remove, Move, Change}
use Rattle.mix_model.specs.declared.kind.Kind.TheVariants.{Scene}
use Rattle.mix_model.specs.declared.settings.Settings.TheVariants.{None as NoSettings}
use Rattle.mix_model.specs.Items.{without_item, without_child, with_item_changed, with_item_at}
use Rattle.mix_model.specs.Values.{new_sound}
use Rattle.mix_model.specs.Edits.{row_changed}
use Rattle.std.proofs.lemmas.List.{length-map}
use Rattle.mix_store.specs.declared.row_edit.RowEdit.{RowEdit}
use Rattle.mix_model.proofs.SetLemmas.{and_first, and_second}
use Rattle.mix_shape.proofs.ThinnerLemmas.{absent_row, fewer, count_fewer}
use Rattle.mix_model.proofs.SteadyLemmas.{steady_serials}
use Rattle.mix_shape.proofs.ThinnerShape.{thinner_without, thinner_child, thinner_moved}
use Rattle.std.proofs.lemmas.Bool.{not-true, or_left, or_right, false_from_ne_true, both_ways}

-- the rows of this serial changed
abbrev pub changed : ℕ → (Row → Row) → List Row → List Row
changed x change rows = map (λ r. cond (is_at x r) (change r) r) rows

-- where no row has the serial, nothing changes
pub unchanged : (x : ℕ) (change : Row → Row) (rows : List Row) → find (is_at x) rows ≡ None →
    changed x change rows ≡ rows
unchanged x change [] none = refl
unchanged x change (r ∷ rows) none = (elim (is_at x r) as (λ b.
    cond b (Some r) (find (is_at x) rows) ≡ None →
    cond b (change r) r ∷ changed x change rows ≡ r ∷ rows) [
      | true ↦ λ here. cc
      | false ↦ λ there. ap (λ rs. r ∷ rs) (unchanged x change rows there)
    ]) none

differs : (y x : ℕ) (xs : List ℕ) → has y xs ≡ false → has x xs ≡ true → (y == x) ≡ false
differs y x xs none there = false_from_ne_true _ (λ same. both_ways _ none
    (ap (λ z. has z xs) (eqb-true y x same) ∙ there))

at_has : (x : ℕ) (rows : List Row) (i : ℕ) (d : Row) → i < length rows →
    (get_or rows i d).serial ≡ x → has x (serials_of rows) ≡ true
at_has x [] i d below here = absurd (omega (arith, below))
at_has x (r ∷ rows) zero d below here = or_left _ _ (eq-eqb r.serial x here)
at_has x (r ∷ rows) (suc i) d below here =
    or_right _ _ (at_has x rows i d (omega (arith, below)) here)

-- one row has the serial: it is changed at its place
pub changed_at : (x : ℕ) (change : Row → Row) (rows : List Row) (i : ℕ) (d : Row) →
    is_distinct (serials_of rows) ≡ true → i < length rows → (get_or rows i d).serial ≡ x →
    changed x change rows ≡ slice_set rows i (change (get_or rows i d))
changed_at x change [] i d differ below here = absurd (omega (arith, below))
changed_at x change (r ∷ rows) zero d differ below here =
    let same : is_at x r ≡ true = eq-eqb r.serial x here in
    let none : has r.serial (serials_of rows) ≡ false = not-true _ (and_first _ _ differ) in
    let rest : changed x change rows ≡ rows = unchanged x change rows
    (absent_row rows x (subst (λ y. has y (serials_of rows) ≡ false) here none)) in
    rw (same, rest)
changed_at x change (r ∷ rows) (suc i) d differ below here =
    let there : has x (serials_of rows) ≡ true =
    at_has x rows i d (omega (arith, below)) here in
    let other : is_at x r ≡ false = differs r.serial x (serials_of rows)
    (not-true _ (and_first _ _ differ)) there in
    let tail : is_distinct (serials_of rows) ≡ true = and_second _ _ differ in
    let rest : changed x change rows ≡ slice_set rows i (change (get_or rows i d)) =
    changed_at x change rows i d tail (omega (arith, below)) here in
    rw (other, rest)

-- a row that is set keeps the order, where it keeps its serial and has no more items
pub set_serials : (rows : List Row) (i : ℕ) (row d : Row) → i < length rows →
    row.serial ≡ (get_or rows i d).serial → serials_of (slice_set rows i row) ≡ serials_of rows
set_serials [] i row d below same = absurd (omega (arith, below))
set_serials (r ∷ rows) zero row d below same = ap (λ n. n ∷ serials_of rows) same
set_serials (r ∷ rows) (suc i) row d below same =
    ap (λ ns. r.serial ∷ ns) (set_serials rows i row d (omega (arith, below)) same)

pub count_cons : (row : Row) (rows : List Row) →
    item_count (row ∷ rows) ≡ length row.items + item_count rows
count_cons row rows = sum_by-cons (λ (r : Row). length r.items) row rows

pub set_count : (rows : List Row) (i : ℕ) (row d : Row) → i < length rows →
    item_count (slice_set rows i row) + length (get_or rows i d).items
    ≡ item_count rows + length row.items
set_count rows i row d below = sum_by-set (λ (r : Row). length r.items) rows i row d below

-- rows of the same serials, with no more items, are in order too
pub order_same : (rows after : List Row) (dying : List ℕ) (places next : ℕ) →
    InOrder rows dying places next → serials_of after ≡ serials_of rows →
    item_count after ≤ 2048 → InOrder after dying places next
order_same rows after dying places next order same few = record {
  room = rw same order.room;
  few = rw same order.few;
  start = order.start;
  drawn = order.drawn;
  items = few;
  rise = rw same order.rise;
  differ = rw same order.differ;
  below = rw same order.below;
}

pub order_set : (rows : List Row) (i : ℕ) (row d : Row) (dying : List ℕ) (places next : ℕ) →
    InOrder rows dying places next → i < length rows →
    row.serial ≡ (get_or rows i d).serial → length row.items ≤ length (get_or rows i d).items →
    InOrder (slice_set rows i row) dying places next
order_set rows i row d dying places next order below same less =
    let count = set_count rows i row d below in
    let few : item_count rows ≤ 2048 = order.items in
    order_same rows (slice_set rows i row) dying places next order
    (set_serials rows i row d below same) (omega (arith, count, few, less))

-- no edit of a row changes its serial
pub edited_serial : (edit : RowEdit) (row : Row) → (row_edited edit row).serial ≡ row.serial
unfolding without_item with_item_at with_item_changed
edited_serial (Remove id) row = refl
edited_serial edit row = refl

-- nor gives it more items
pub edited_items : (edit : RowEdit) (row : Row) →
    length (row_edited edit row).items ≤ length row.items
unfolding with_item_changed
edited_items (Remove id) row = fewer (without_item id) (thinner_without id) row
edited_items (Move id index) row = fewer (with_item_at id index) (thinner_moved id index) row
edited_items (Change id edit) row =
    omega (arith, length-map row.items (λ i. cond (has_id id i) (item_edited edit i) i))
edited_items edit row = omega arith

-- some row
pub some_row : Row
some_row = new_row 0 [] Scene NoSettings new_sound

pub nothing_changed : (g : GraphState) (x : ℕ) (change : Row → Row) →
    find (is_at x) g.rows ≡ None → g ≡ row_changed x change g
nothing_changed g x change none =
    ap (λ rows. record g { rows = rows }) (sym (unchanged x change g.rows none))

pub changed_length : (x : ℕ) (change : Row → Row) (g : GraphState) →
    length (row_changed x change g).rows ≡ length g.rows
changed_length x change g = length-map g.rows (λ r. cond (is_at x r) (change r) r)

-- a source that is removed leaves every row, with no more items
pub order_without : (x : ℕ) (rows : List Row) (dying : List ℕ) (places next : ℕ) →
    InOrder rows dying places next → InOrder (map (without_child x) rows) dying places next
order_without x rows dying places next order =
    let few : item_count rows ≤ 2048 = order.items in
    order_same rows (map (without_child x) rows) dying places next order
    (steady_serials (without_child x) (thinner_child x).steady rows)
    (omega (arith, few, count_fewer (without_child x) (thinner_child x) rows))
