-- New sources with an item of their parent that shows them.
-- Why a call that creates or adds is refused, before it takes memory.
use Rattle.std.proofs.Common.{◌≡◌, ℕ, ◌+◌, ◌<◌, ◌≤◌, true, List, [], ◌∷◌, ◌++◌, length, get_or}
use Rattle.std.proofs.Common.{refl, ap, sym, ◌∙◌, arith, length-append, Some, None, nat_lt, Bool}
use Rattle.std.proofs.Common.{false, cond, Option, Err, Result, Ok, OnOk, is_none, not}
use Rattle.std.specs.List.{list_all}
use Rattle.std.proofs.lemmas.List.{map-append, get_or_append_left}
use Rattle.mix_model.specs.declared.fault.GraphFault.TheVariants.{NotFound, NoMemory}
use Rattle.mix_model.specs.declared.kind.Kind.{Kind}
use Rattle.mix_model.specs.declared.settings.Settings.{Settings}
use Rattle.mix_model.specs.declared.item.ItemSpec.{ItemSpec}
use Rattle.mix_model.specs.declared.row.Row.{Row}
use Rattle.mix_model.specs.Sets.{is_distinct}
use Rattle.mix_model.specs.Rows.{is_input, new_row, serials_of, has_items}
use Rattle.mix_model.specs.Values.{new_sound}
use Rattle.mix_model.specs.Items.{with_item, spec_of}
use Rattle.mix_model.specs.State.{GraphState}
use Rattle.mix_model.specs.Edits.{item_added, row_added, scene_created, group_created}
use Rattle.mix_model.specs.Edits.{input_created, shown_input_created, item_duplicated}
use Rattle.mix_model.specs.declared.kind.Kind.TheVariants.{Group}
use Rattle.mix_model.specs.declared.settings.Settings.TheVariants.{None as NoSettings}
use Rattle.mix_model.specs.Causes.{shown_early, shown_cause, item_count, not_parent, name_taken}
use Rattle.mix_model.specs.Causes.{Cause, first_cause, item_early, item_late, copy_early, copy_late}
use Rattle.mix_model.specs.Causes.{cause_or, unknown, copy_cause}
use Rattle.std.proofs.lemmas.List.Sums.{sum_by_push}
use Rattle.mix_shape.specs.Created.{shown_added, listed, input_made, Wanted}
use Rattle.mix_store.specs.Searched.{InOrder, with_item_on}
use Rattle.mix_shape.proofs.ThinnerLemmas.{differ_more}
use Rattle.mix_store.proofs.CreateLemmas.{order_row, refused_by}
use Rattle.mix_store.proofs.ChangeLemmas.{changed_at, changed_length, order_same}
use Rattle.mix_store.proofs.ItemLemmas.{put_serials, put_few, late_free, copy_put}
use Rattle.mix_model.specs.Lookups.{is_row, item_at}
use Rattle.mix_model.specs.Holders.{is_named}
use Rattle.std.proofs.lemmas.Bool.{both_ways, not-false}
use Rattle.mix_shape.proofs.GrownShape.{no_cause, named_is_row}
use Rattle.mix_model.specs.declared.fault.GraphFault.{GraphFault}
use Rattle.mix_model.specs.Walks.{is_chained}
use Rattle.mix_model.proofs.SetLemmas.{and_first, and_second}
use Rattle.mix_shape.specs.declared.new_item.NewItem.{NewItem}
use Rattle.mix_shape.specs.Refused.{RefusedBy}
use Rattle.mix_shape.specs.NewItems.{late_cause_with}
use Rattle.mix_model.specs.declared.item.Item.{Item}
use Rattle.mix_shape.proofs.WithLemmas.{added_item, late_added, late_no_memory, late_shown}

-- a parent that isn't refused is there
pub shown_there : (g : GraphState) (name : List ℕ) (parent : ℕ) →
    shown_early g name parent ≡ None → is_row g parent ≡ true
unfolding shown_early
shown_there g name parent early = named_is_row g parent
    (not-false (is_named g parent) (no_cause (not (is_named g parent)) _ _ early).0)

-- the rows with one more
abbrev pub with_row : List ℕ → Kind → Settings → GraphState → List Row
with_row name kind settings g =
    g.rows ++ new_row g.next_serial name kind settings new_sound ∷ []

serials_with : (name : List ℕ) (kind : Kind) (settings : Settings) (g : GraphState) →
    serials_of (with_row name kind settings g) ≡ serials_of g.rows ++ g.next_serial ∷ []
unfolding new_row
serials_with name kind settings g = map-append (λ (r : Row). r.serial) g.rows _

-- the rows with the new one, and its item on its parent, are those of the edit
pub shown_state : (name : List ℕ) (kind : Kind) (settings : Settings) (parent : ℕ)
    (spec : ItemSpec) (g : GraphState) (at : ℕ) (d : Row) →
    is_distinct (serials_of g.rows) ≡ true →
    list_all (λ x. nat_lt x g.next_serial) (serials_of g.rows) ≡ true →
    at < length g.rows → (get_or g.rows at d).serial ≡ parent →
    record g {
      rows = with_item_on (with_row name kind settings g) at g.next_serial spec d;
      inputs = listed kind g.next_serial g.inputs;
      next_serial = g.next_serial + 1;
    } ≡ shown_added name kind settings parent spec g
unfolding shown_added item_added
shown_state name kind settings parent spec g at d differ below within here =
    let new : Row = new_row g.next_serial name kind settings new_sound in
    let serials = serials_with name kind settings g in
    let apart : is_distinct (serials_of (with_row name kind settings g)) ≡ true =
    rw serials (differ_more (serials_of g.rows) g.next_serial differ below) in
    let count = length-append g.rows (new ∷ []) in
    let same = get_or_append_left g.rows (new ∷ []) d at within in
    ap (λ rows. record g {
      rows = rows;
      inputs = listed kind g.next_serial g.inputs;
      next_serial = g.next_serial + 1;
    }) (sym (changed_at parent (with_item g.next_serial spec) (with_row name kind settings g) at d
    apart (omega (arith, count, within)) (rw same here)))

-- the rows are in order with the new one and its item
pub order_shown : (rows after : List Row) (row : Row) (dying : List ℕ) (before room next : ℕ)
    (at child : ℕ) (spec : ItemSpec) (d : Row) →
    InOrder rows dying before next → row.items ≡ [] →
    length dying + (length rows + 1) ≤ room → next < 4294967295 → row.serial ≡ next →
    at < length rows → after ≡ with_item_on (rows ++ row ∷ []) at child spec d →
    item_count rows < 2048 → InOrder after dying room (next + 1)
order_shown rows after row dying before room next at child spec d order bare had below own within
    put few =
    let one : InOrder (rows ++ row ∷ []) dying room (next + 1) =
    order_row rows (rows ++ row ∷ []) row dying before room next order refl bare had below own in
    let inside : at < length (rows ++ row ∷ []) =
    omega (arith, length-append rows (row ∷ []), within) in
    let none : length row.items ≡ 0 = ap length bare in
    let all : item_count (rows ++ row ∷ []) ≡ item_count rows + length row.items =
    sum_by_push (λ (r : Row). length r.items) rows row in
    rw put (order_same (rows ++ row ∷ []) (with_item_on (rows ++ row ∷ []) at child spec d) dying
    room (next + 1) one (put_serials (rows ++ row ∷ []) at child spec d inside)
    (put_few (rows ++ row ∷ []) at child spec d inside (omega (arith, all, none, few))))

-- a group isn't listed
pub shown_group : (name : List ℕ) (parent : ℕ) (spec : ItemSpec) (g : GraphState) →
    shown_added name Group NoSettings parent spec g ≡ group_created name parent spec g
unfolding shown_added group_created item_added
shown_group name parent spec g = refl

-- an input is listed
pub shown_input : (name : List ℕ) (kind : Kind) (settings : Settings) (parent : ℕ)
    (spec : ItemSpec) (g : GraphState) → is_input kind ≡ true →
    shown_added name kind settings parent spec g
    ≡ shown_input_created name kind settings parent spec g
unfolding shown_added shown_input_created input_created item_added
shown_input name kind settings parent spec g input = rw input refl

-- there is one row more
pub scene_count : (name : List ℕ) (g : GraphState) →
    length (scene_created name g).rows ≡ length g.rows + 1
unfolding scene_created
scene_count name g = length-append g.rows _

pub group_count : (name : List ℕ) (parent : ℕ) (spec : ItemSpec) (g : GraphState) →
    length (group_created name parent spec g).rows ≡ length g.rows + 1
unfolding group_created item_added
group_count name parent spec g =
    changed_length parent (with_item g.next_serial spec) (row_added name Group NoSettings g)
    ∙ length-append g.rows _

pub input_count : (name : List ℕ) (kind : Kind) (settings : Settings) (wanted : Wanted)
    (g : GraphState) →
    length (input_made name kind settings wanted g).rows ≡ length g.rows + 1
unfolding input_created shown_input_created item_added
input_count name kind settings None g = length-append g.rows _
input_count name kind settings (Some wanted) g =
    changed_length wanted.0 (with_item g.next_serial wanted.1) (row_added name kind settings g)
    ∙ length-append g.rows _

-- want of memory is none of the causes
abbrev is_cause : GraphFault → Bool
is_cause NoMemory = false
is_cause fault = true

no_memory_in : (causes : List Cause) → list_all (λ c. is_cause c.1) causes ≡ true →
    first_cause causes ≡ Some NoMemory → ⊥
no_memory_in [] all h = cc
no_memory_in (c ∷ causes) all h =
    here c.0 c.1 (and_first _ _ all) (no_memory_in causes (and_second _ _ all)) h
  where
    here : (b : Bool) (fault : GraphFault) → is_cause fault ≡ true →
        (first_cause causes ≡ Some NoMemory → ⊥) →
        cond b (Some fault) (first_cause causes) ≡ Some NoMemory → ⊥
    here true fault cause rest h =
        let same : fault ≡ NoMemory = cc in both_ways (is_cause fault) (ap is_cause same) cause
    here false fault cause rest h = rest h

-- an early cause refuses
pub early_fault : (T : Type 0) (early late : Option GraphFault) (fault : GraphFault) →
    early ≡ Some fault → (early ≡ Some NoMemory → ⊥) →
    RefusedBy {T = T} (cause_or early late) (Err fault)
early_fault T early late fault some other =
    let same : cause_or early late ≡ Some fault = ap (λ o. cause_or o late) some in
    refused_by T (cause_or early late) fault same (λ none. other (some ∙ sym same ∙ none))

pub item_early_cause : (g : GraphState) (parent child : ℕ) →
    item_early g parent child ≡ Some NoMemory → ⊥
unfolding item_early
item_early_cause g parent child =
    no_memory_in (unknown g parent ∷ (unknown g child ∷ (not_parent g parent ∷ []))) refl

pub copy_early_cause : (g : GraphState) (parent id to : ℕ) →
    copy_early g parent id to ≡ Some NoMemory → ⊥
unfolding copy_early
copy_early_cause g parent id to = no_memory_in (unknown g parent
    ∷ ((is_none (item_at g parent id), NotFound) ∷ (unknown g to ∷ (not_parent g to ∷ [])))) refl

pub shown_early_cause : (g : GraphState) (name : List ℕ) (parent : ℕ) →
    shown_early g name parent ≡ Some NoMemory → ⊥
unfolding shown_early
shown_early_cause g name parent =
    no_memory_in (unknown g parent ∷ (not_parent g parent ∷ (name_taken g name ∷ []))) refl

-- the late causes of an item
pub item_late_is : (g : GraphState) (parent child : ℕ) (spec : ItemSpec) →
    is_chained g child parent ≡ false → is_distinct (serials_of g.rows) ≡ true →
    is_row g parent ≡ true → item_late g parent child (item_added parent child spec g)
    ≡ late_cause_with (added_item parent child spec g) g.rows (length g.rows)
item_late_is g parent child spec free differ there =
    late_free g (item_added parent child spec g) parent child free
    ∙ late_added parent child spec g differ there

-- and of a source that it shows, where nothing is refused early
pub shown_late_is : (name : List ℕ) (kind : Kind) (settings : Settings) (parent : ℕ)
    (spec : ItemSpec) (g : GraphState) →
    list_all (λ x. nat_lt x g.next_serial) (serials_of g.rows) ≡ true →
    is_distinct (serials_of g.rows) ≡ true → shown_early g name parent ≡ None →
    shown_cause g name parent (shown_added name kind settings parent spec g)
    ≡ late_cause_with (record { parent = parent; child = g.next_serial; group = has_items kind })
    g.rows (length g.rows + 1)
shown_late_is name kind settings parent spec g below differ early = rw early
    (late_shown name kind settings parent spec g below differ (shown_there g name parent early))

pub late_refuses : (T : Type 0) (cause : Option GraphFault) (new : NewItem) (rows : List Row)
    (count : ℕ) (fault : GraphFault) → cause ≡ late_cause_with new rows count →
    late_cause_with new rows count ≡ Some fault → RefusedBy {T = T} cause (Err fault)
late_refuses T cause new rows count fault same some =
    refused_by T cause fault (same ∙ some) (λ none. late_no_memory new rows count (sym same ∙ none))

pub ok_always : {T E : Type 0} (P : Type 0) (r : Result T E) → P → OnOk r P
ok_always P (Ok x) p = p
ok_always P (Err e) p = tt

-- a copy is refused as an item of its child is
pub copied_refuses : (g : GraphState) (parent id to : ℕ) (item : Item) →
    copy_early g parent id to ≡ None → item_at g parent id ≡ Some item →
    copy_cause g parent id to (item_duplicated parent id to g)
    ≡ item_late g to item.child (item_added to item.child (spec_of item) g)
unfolding copy_late
copied_refuses g parent id to item early found =
    rw (early, found) (ap (item_late g to item.child) (copy_put g parent id to item found))
