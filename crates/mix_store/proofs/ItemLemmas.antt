-- Why a new item is refused, and the rows with it.
use Rattle.std.proofs.Common.{◌≡◌, ℕ, ◌<◌, ◌≤◌, true, false, not, List, [], ◌∷◌, ◌+◌, arith, length}
use Rattle.std.proofs.Common.{get_or, slice_set, find, refl, sym, ◌∙◌, Some, None, Err, Result, Ok}
use Rattle.std.proofs.Common.{OnOk, OnErr, IfOk, is_none, length-append}
use Rattle.mix_model.specs.declared.fault.GraphFault.TheVariants.{Cycle}
use Rattle.mix_model.specs.declared.item.ItemSpec.{ItemSpec}
use Rattle.mix_model.specs.declared.row.Row.{Row}
use Rattle.mix_model.specs.Rows.{is_at, serials_of}
use Rattle.mix_model.specs.Items.{with_item, spec_of, new_item}
use Rattle.mix_model.specs.State.{GraphState}
use Rattle.mix_model.specs.Lookups.{is_row, item_at}
use Rattle.mix_model.specs.Holders.{is_named}
use Rattle.mix_model.specs.Walks.{is_chained}
use Rattle.mix_model.specs.Edits.{item_added, item_duplicated}
use Rattle.mix_model.specs.Causes.{item_early, item_late, late_cause, item_count, copy_early}
use Rattle.mix_model.specs.declared.item.Item.{Item}
use Rattle.std.proofs.lemmas.Bool.{not-false}
use Rattle.mix_shape.proofs.GrownShape.{no_cause, named_is_row}
use Rattle.mix_store.specs.Searched.{InOrder, RowsRise}
use Rattle.mix_store.proofs.ChangeLemmas.{order_same, set_serials, set_count}
use Rattle.mix_store.proofs.KeyLemmas.{key_found}

pub late_chained : (g after : GraphState) (parent child : ℕ) → is_chained g child parent ≡ true →
    item_late g parent child after ≡ Some Cycle
unfolding item_late
late_chained g after parent child chained = rw chained

pub late_free : (g after : GraphState) (parent child : ℕ) → is_chained g child parent ≡ false →
    item_late g parent child after ≡ late_cause after
unfolding item_late late_cause
late_free g after parent child free = rw free

-- the row that has the serial is the one that is found
pub found_at : (x : ℕ) (rows slice : List Row) (i : ℕ) (d : Row) → slice ≡ rows →
    RowsRise rows → i < length slice → (get_or slice i d).serial ≡ x →
    find (is_at x) rows ≡ Some (get_or rows i d)
found_at x rows slice i d same rise below here =
    key_found (λ (r : Row). r.serial) d 0 rows rise x i (rw same at below) (rw same at here)

-- a row that is there is found
pub no_row : (g : GraphState) (x : ℕ) → is_row g x ≡ true → find (is_at x) g.rows ≡ None → ⊥
no_row g x there none = let gone : is_row g x ≡ false = rw none refl in
    absurd (cc (sym there ∙ gone))

-- a parent that isn't refused is there
pub parent_there : (g : GraphState) (parent child : ℕ) → item_early g parent child ≡ None →
    is_row g parent ≡ true
unfolding item_early
parent_there g parent child early = named_is_row g parent
    (not-false (is_named g parent) (no_cause (not (is_named g parent)) _ _ early).0)

-- and so are an item that is copied, and where its copy goes
pub copied_there : (g : GraphState) (parent id to : ℕ) → copy_early g parent id to ≡ None →
    is_none (item_at g parent id) ≡ false
unfolding copy_early
copied_there g parent id to early = (no_cause (is_none (item_at g parent id)) _ _
    (no_cause (not (is_named g parent)) _ _ early).1).0

pub goal_there : (g : GraphState) (parent id to : ℕ) → copy_early g parent id to ≡ None →
    is_row g to ≡ true
unfolding copy_early
goal_there g parent id to early = named_is_row g to (not-false (is_named g to)
    (no_cause (not (is_named g to)) _ _ (no_cause (is_none (item_at g parent id)) _ _
    (no_cause (not (is_named g parent)) _ _ early).1).1).0)

-- a copy is an item of the same child
pub copy_put : (g : GraphState) (parent id to : ℕ) (item : Item) → item_at g parent id ≡ Some item →
    item_duplicated parent id to g ≡ item_added to item.child (spec_of item) g
unfolding item_duplicated item_added
copy_put g parent id to item found = rw found refl

pub ok_map : {T E : Type 0} (P Q : Type 0) (r : Result T E) → OnOk r P → (P → Q) → OnOk r Q
ok_map P Q (Ok x) h f = f h
ok_map P Q (Err e) h f = h

pub reply_map : {T E : Type 0} (P Q : T → Type 0) (r : Result T E) → IfOk r P →
    ((x : T) → P x → Q x) → IfOk r Q
reply_map P Q (Ok x) h f = f x h
reply_map P Q (Err e) h f = h

-- the rows are in order, whether there is memory for the item or not
pub order_put : {T E : Type 0} (rows after put : List Row) (dying : List ℕ) (places next : ℕ)
    (r : Result T E) → OnOk r (after ≡ put) → OnErr r (after ≡ rows) → item_count put ≤ 2048 →
    InOrder rows dying places next → serials_of put ≡ serials_of rows →
    InOrder after dying places next
order_put rows after put dying places next (Ok x) ok err few order same =
    rw ok (order_same rows put dying places next order same few)
order_put rows after put dying places next (Err e) ok err few order same = rw err order

pub put_serials : (rows : List Row) (at child : ℕ) (spec : ItemSpec) (d : Row) →
    at < length rows → serials_of (slice_set rows at (with_item child spec (get_or rows at d)))
    ≡ serials_of rows
unfolding with_item
put_serials rows at child spec d below =
    set_serials rows at (with_item child spec (get_or rows at d)) d below refl

-- rows with an item more, where there is a place for it
pub put_few : (rows : List Row) (at child : ℕ) (spec : ItemSpec) (d : Row) → at < length rows →
    item_count rows < 2048 →
    item_count (slice_set rows at (with_item child spec (get_or rows at d))) ≤ 2048
unfolding with_item
put_few rows at child spec d below few =
    let row : Row = get_or rows at d in
    let more : length (with_item child spec row).items ≡ length row.items + 1 =
    length-append row.items (new_item row.next_item child spec ∷ []) in
    omega (arith, set_count rows at (with_item child spec row) d below, more, few)
