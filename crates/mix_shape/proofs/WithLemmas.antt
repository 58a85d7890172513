-- What a new item makes of ranks, weights and numbers: so it is refused by the rows as they are.
use Rattle.std.proofs.Common.{◌≡◌, ℕ, suc, ◌+◌, ◌≤◌, ◌<◌, ◌==◌, Bool, true, false, cond, not, ◌&&◌}
use Rattle.std.proofs.Common.{List, [], ◌∷◌, ◌++◌, map, length, Option, Some, None, refl, ap, sym}
use Rattle.std.proofs.Common.{◌∙◌, arith, nat_le, nat_lt, option_map, option_and_then}
use Rattle.std.specs.List.{list_all, sum_by}
use Rattle.std.specs.Option.{option_or}
use Rattle.std.proofs.lemmas.Bool.Decides.{nat_tests}
use Rattle.std.proofs.lemmas.List.{map-append, length-append, length-map, append-nil}
use Rattle.std.proofs.lemmas.List.Folds.{list_all-append, list_all-map, find-append}
use Rattle.std.proofs.lemmas.List.Sums.{sum_by-append, sum_by-cons}
use Rattle.mix_model.specs.declared.fault.GraphFault.{GraphFault}
use Rattle.mix_model.specs.declared.fault.GraphFault.TheVariants.{Depth, TooMany, NoMemory}
use Rattle.mix_model.specs.declared.kind.Kind.{Kind}
use Rattle.mix_model.specs.declared.settings.Settings.{Settings}
use Rattle.mix_model.specs.Rows.{new_row, is_at, has_items, children_of, serials_of}
use Rattle.mix_model.specs.Values.{new_sound}
use Rattle.mix_model.specs.Edits.{item_added}
use Rattle.mix_model.proofs.SetLemmas.{and_both}
use Rattle.mix_model.proofs.DyingLemmas.{member_passes}
use Rattle.mix_shape.specs.Created.{shown_added}
use Rattle.mix_shape.proofs.ThinnerLemmas.{fresh_row}
use Rattle.mix_shape.proofs.GrownShape.{no_cause, below_other}
use Rattle.mix_model.specs.declared.item.Item.{Item}
use Rattle.mix_model.specs.declared.item.ItemSpec.{ItemSpec}
use Rattle.mix_model.specs.declared.row.Row.{Row}
use Rattle.mix_model.specs.Sets.{greatest, is_distinct}
use Rattle.mix_model.specs.Items.{with_item, new_item}
use Rattle.mix_model.specs.Lookups.{find_row, has_row}
use Rattle.mix_model.specs.Ranks.{inside_of, inside_in, rank_by, rank_over, rank_in, sum_of}
use Rattle.mix_model.specs.Ranks.{weight_by, weight_over, weight_in, rank, weight, ranks_within}
use Rattle.mix_model.specs.Ranks.{weights_within}
use Rattle.mix_model.specs.State.{GraphState}
use Rattle.mix_model.specs.Causes.{item_count, late_cause, first_cause}
use Rattle.mix_model.proofs.AlikeLemmas.{Alike, rank_alike, weight_alike, inside_any}
use Rattle.mix_model.proofs.SteadyLemmas.{Steady, steady_found}
use Rattle.mix_model.proofs.BlindLemmas.{all_congr}
use Rattle.mix_model.proofs.DistinctLemmas.{row_is_listed}
use Rattle.mix_shape.specs.declared.new_item.NewItem.{NewItem}
use Rattle.mix_shape.specs.NewItems.{inside_with, inside_or_new, inside_new, rank_with, weight_with}
use Rattle.mix_shape.specs.NewItems.{late_cause_with}
use Rattle.mix_shape.proofs.SumLemmas.{one_if, times, times_present, distinct_times, sum_map}
use Rattle.mix_shape.proofs.AddedShape.{at_parent, steady_parent}

-- a child at the end, or before all others
greatest_end : (f : ℕ → ℕ) (xs : List ℕ) (c : ℕ) →
    greatest (map f (xs ++ c ∷ [])) ≡ greatest (map f (c ∷ xs))
greatest_end f [] c = refl
greatest_end f (x ∷ xs) c = omega (arith, greatest_end f xs c)

sum_end : (f : ℕ → ℕ) (xs : List ℕ) (c : ℕ) →
    sum_of (map f (xs ++ c ∷ [])) ≡ sum_of (map f (c ∷ xs))
sum_end f [] c = refl
sum_end f (x ∷ xs) c = omega (arith, sum_end f xs c)

alike_kind : (b : Bool) (xs ys : List ℕ) → Alike (Some xs) (Some ys) →
    Alike (cond b (Some xs) None) (cond b (Some ys) None)
alike_kind true xs ys alike = alike
alike_kind false xs ys alike = λ f. (refl, refl)

-- a row with the item, and its children with that of the item
row_case : (new : NewItem) (spec : ItemSpec) (r : Row) (b : Bool) →
    Alike (inside_of (cond b (with_item new.child spec r) r))
    (cond (has_items r.kind)
    (Some (cond b (new.child ∷ children_of r) (children_of r))) None)
unfolding with_item new_item
row_case new spec r true =
    let ends : map (λ (i : Item). i.child) (r.items ++ new_item r.next_item new.child spec ∷ [])
    ≡ children_of r ++ new.child ∷ [] =
    map-append (λ (i : Item). i.child) r.items (new_item r.next_item new.child spec ∷ []) in
    alike_kind (has_items r.kind) _ (new.child ∷ children_of r)
    (λ f. (
      ap (λ cs. suc (greatest (map f cs))) ends ∙ ap suc (greatest_end f (children_of r) new.child),
      ap (λ cs. suc (sum_of (map f cs))) ends ∙ ap suc (sum_end f (children_of r) new.child),
    ))
row_case new spec r false = λ f. (refl, refl)

pub row_alike : (new : NewItem) (spec : ItemSpec) (r : Row) →
    Alike (inside_of (at_parent new.parent new.child spec r)) (inside_or_new new r.serial (Some r))
unfolding at_parent
row_alike new spec r = row_case new spec r (is_at new.parent r)

true_end : (b c : Bool) → c ≡ true → (b && c) ≡ b
true_end true c is = is
true_end false c is = refl

-- what the tests of the late causes decide
abbrev late_by : Bool → Bool → Bool → Bool → Option GraphFault
late_by deep rows items heavy = first_cause ((deep, Depth) ∷ ((rows, TooMany 512)
    ∷ ((items, TooMany 2048) ∷ ((heavy, TooMany 4096) ∷ []))))

-- rows with a new item on one of them, and perhaps a new row
module _ (new : NewItem) (spec : ItemSpec) (rows extra : List Row) where
  abbrev h : Row → Row
  h = at_parent new.parent new.child spec

  abbrev s : Steady h
  s = steady_parent new.parent new.child spec

  abbrev all : List Row
  all = map h (rows ++ extra)

  -- what is asked of the new row
  pub record Extra : Type 0 where
    pub inside : (x : ℕ) → find_row rows x ≡ None →
        Alike (inside_in (map h extra) x) (inside_new new x)
    pub ranks : list_all (λ r. nat_le (rank_with new rows r.serial) 16) extra ≡ true
    pub weights : list_all (λ r. nat_le (weight_with new rows r.serial) 4096) extra ≡ true
    pub items : sum_by (λ r. length (h r).items) extra ≡ 0

  module _ (e : Extra) where
    found_alike : (x : ℕ) (o : Option Row) → find_row rows x ≡ o →
        Alike (option_and_then inside_of (option_map h (option_or o (find_row extra x))))
        (inside_or_new new x o)
    found_alike x (Some r) found = row_alike new spec r
    found_alike x None found =
        λ f. (
          rw (steady_found h s extra x) at (e.inside x found f).0,
          rw (steady_found h s extra x) at (e.inside x found f).1,
        )

    inside_alike : (x : ℕ) → Alike (inside_in all x) (inside_with new rows x)
    inside_alike x =
        rw (steady_found h s (rows ++ extra) x, find-append (is_at x) rows extra)
        (found_alike x (find_row rows x) refl)

    rank_same : (x : ℕ) → rank_in all x ≡ rank_with new rows x
    unfolding rank_with
    rank_same x = rank_alike (λ y. true) (inside_in all) (inside_with new rows)
        (λ y here. inside_alike y) (λ y here. inside_any (inside_with new rows y)) 17 x refl

    weight_same : (x : ℕ) → weight_in all x ≡ weight_with new rows x
    unfolding weight_with
    weight_same x = weight_alike (λ y. true) (inside_in all) (inside_with new rows)
        (λ y here. inside_alike y) (λ y here. inside_any (inside_with new rows y)) 17 x refl

    ranks_same : list_all (λ r. nat_le (rank_in all r.serial) 16) all
        ≡ list_all (λ r. nat_le (rank_with new rows r.serial) 16) rows
    ranks_same =
        list_all-map (λ r. nat_le (rank_in all r.serial) 16) h (rows ++ extra)
        ∙ all_congr (λ r. nat_le (rank_in all (h r).serial) 16)
        (λ r. nat_le (rank_with new rows r.serial) 16)
        (λ r. rw (s.serial r, rank_same r.serial)) (rows ++ extra)
        ∙ list_all-append (λ r. nat_le (rank_with new rows r.serial) 16) rows extra
        ∙ true_end _ _ e.ranks

    weights_same : list_all (λ r. nat_le (weight_in all r.serial) 4096) all
        ≡ list_all (λ r. nat_le (weight_with new rows r.serial) 4096) rows
    weights_same =
        list_all-map (λ r. nat_le (weight_in all r.serial) 4096) h (rows ++ extra)
        ∙ all_congr (λ r. nat_le (weight_in all (h r).serial) 4096)
        (λ r. nat_le (weight_with new rows r.serial) 4096)
        (λ r. rw (s.serial r, weight_same r.serial)) (rows ++ extra)
        ∙ list_all-append (λ r. nat_le (weight_with new rows r.serial) 4096) rows extra
        ∙ true_end _ _ e.weights

    row_items : (r : Row) (b : Bool) →
        length (cond b (with_item new.child spec r) r).items ≡ length r.items + one_if b
    unfolding with_item
    row_items r true = length-append r.items (new_item r.next_item new.child spec ∷ [])
    row_items r false = omega arith

    items_sum : (rs : List Row) → sum_by (λ r. length (h r).items) rs
        ≡ item_count rs + sum_by (λ r. one_if (is_at new.parent r)) rs
    unfolding at_parent
    items_sum [] = refl
    items_sum (r ∷ rs) =
        omega (
          arith,
          sum_by-cons (λ (t : Row). length (h t).items) r rs,
          sum_by-cons (λ (t : Row). length t.items) r rs,
          sum_by-cons (λ (t : Row). one_if (is_at new.parent t)) r rs,
          row_items r (is_at new.parent r),
          items_sum rs,
        )

    -- one item more
    items_more : is_distinct (serials_of rows) ≡ true → has_row rows new.parent ≡ true →
        item_count all ≡ item_count rows + 1
    items_more differ there =
        let few : times new.parent (serials_of rows) ≤ 1 =
        distinct_times (serials_of rows) differ new.parent in
        let some : 1 ≤ times new.parent (serials_of rows) =
        times_present new.parent (serials_of rows) (sym (row_is_listed rows new.parent) ∙ there) in
        omega (
          arith,
          few,
          some,
          sum_map (λ (r : Row). length r.items) h (rows ++ extra),
          sum_by-append (λ (r : Row). length (h r).items) rows extra,
          items_sum rows,
          sum_map (λ y. one_if (y == new.parent)) (λ (r : Row). r.serial) rows,
          e.items,
        )

    late_same : (g : GraphState) → g.rows ≡ all → is_distinct (serials_of rows) ≡ true →
        has_row rows new.parent ≡ true → (count : ℕ) → length (rows ++ extra) ≡ count →
        late_cause g ≡ late_cause_with new rows count
    unfolding late_cause late_cause_with ranks_within weights_within rank weight
    late_same g same differ there count is =
        let deep : list_all (λ r. nat_le (rank_in g.rows r.serial) 16) g.rows
        ≡ list_all (λ r. nat_le (rank_with new rows r.serial) 16) rows =
        ap (λ rs. list_all (λ (r : Row). nat_le (rank_in rs r.serial) 16) rs) same ∙ ranks_same in
        let heavy : list_all (λ r. nat_le (weight_in g.rows r.serial) 4096) g.rows
        ≡ list_all (λ r. nat_le (weight_with new rows r.serial) 4096) rows =
        ap (λ rs. list_all (λ (r : Row). nat_le (weight_in rs r.serial) 4096) rs) same
        ∙ weights_same in
        let long : length g.rows ≡ count = ap length same ∙ length-map (rows ++ extra) h ∙ is in
        let many : item_count g.rows ≡ item_count rows + 1 =
        ap item_count same ∙ items_more differ there in
        rw (deep, heavy, long, many) refl

-- an item between rows
module _ (parent child : ℕ) (spec : ItemSpec) (g : GraphState) where
  abbrev pub added_item : NewItem
  added_item = record { parent = parent; child = child; group = false }

  no_row : Extra added_item spec g.rows []
  no_row = record {
    inside = λ x none f. (refl, refl);
    ranks = refl;
    weights = refl;
    items = refl;
  }

  pub late_added : is_distinct (serials_of g.rows) ≡ true → has_row g.rows parent ≡ true →
      late_cause (item_added parent child spec g)
      ≡ late_cause_with added_item g.rows (length g.rows)
  unfolding item_added at_parent
  late_added differ there = late_same added_item spec g.rows [] no_row
      (item_added parent child spec g)
      (ap (map (at_parent parent child spec)) (sym (append-nil g.rows))) differ there
      (length g.rows) (ap length (append-nil g.rows))

  -- one item more
  pub added_count : is_distinct (serials_of g.rows) ≡ true → has_row g.rows parent ≡ true →
      item_count (item_added parent child spec g).rows ≡ item_count g.rows + 1
  unfolding item_added at_parent
  added_count differ there =
      ap (λ rs. item_count (map (at_parent parent child spec) rs)) (sym (append-nil g.rows))
      ∙ items_more added_item spec g.rows [] no_row differ there

pub rank_low : (f : ℕ → ℕ) (b : Bool) → nat_le (rank_over f (cond b (Some []) None)) 16 ≡ true
rank_low f true = refl
rank_low f false = refl

pub weight_low : (f : ℕ → ℕ) (b : Bool) → nat_le (weight_over f (cond b (Some []) None)) 4096 ≡ true
weight_low f true = refl
weight_low f false = refl

-- a group or an input with an item that shows it
module _ (name : List ℕ) (kind : Kind) (settings : Settings) (parent : ℕ) (spec : ItemSpec)
    (g : GraphState) (below : list_all (λ x. nat_lt x g.next_serial) (serials_of g.rows) ≡ true)
    (differ : is_distinct (serials_of g.rows) ≡ true)
    (there : has_row g.rows parent ≡ true) where
  abbrev pub shown_item : NewItem
  shown_item = record { parent = parent; child = g.next_serial; group = has_items kind }

  abbrev row : Row
  row = new_row g.next_serial name kind settings new_sound

  -- the new row isn't the parent, and isn't there yet
  apart : (g.next_serial == parent) ≡ false
  apart = below_other g.next_serial parent
      (member_passes (λ x. nat_lt x g.next_serial) parent (serials_of g.rows)
      (sym (row_is_listed g.rows parent) ∙ there) below)

  inside_case : (x : ℕ) (b c : Bool) →
      Alike (option_and_then inside_of (cond b (Some row) None)) (cond (has_items kind && b) (Some []) None)
  unfolding new_row
  inside_case x true c = kind_case (has_items kind)
    where
      kind_case : (k : Bool) → Alike (cond k (Some []) None) (cond (k && true) (Some []) None)
      kind_case true = λ f. (refl, refl)
      kind_case false = λ f. (refl, refl)
  inside_case x false c = kind_case (has_items kind)
    where
      kind_case : (k : Bool) → Alike None (cond (k && false) (Some []) None)
      kind_case true = λ f. (refl, refl)
      kind_case false = λ f. (refl, refl)

  one_row : Extra shown_item spec g.rows (row ∷ [])
  unfolding new_row at_parent rank_with weight_with
  one_row = record {
    inside = λ x none. rw apart (inside_case x (g.next_serial == x) true);
    ranks = rw (fresh_row g.rows g.next_serial below)
        (and_both _ _ (rank_low (λ c. rank_by (inside_with shown_item g.rows) 16 c)
        (has_items kind && (g.next_serial == g.next_serial))) refl);
    weights = rw (fresh_row g.rows g.next_serial below)
        (and_both _ _ (weight_low (λ c. weight_by (inside_with shown_item g.rows) 16 c)
        (has_items kind && (g.next_serial == g.next_serial))) refl);
    items = rw apart refl;
  }

  pub shown_count : item_count (shown_added name kind settings parent spec g).rows
      ≡ item_count g.rows + 1
  unfolding shown_added item_added at_parent
  shown_count = items_more shown_item spec g.rows (row ∷ []) one_row differ there

  pub late_shown : late_cause (shown_added name kind settings parent spec g)
      ≡ late_cause_with shown_item g.rows (length g.rows + 1)
  unfolding shown_added item_added at_parent
  late_shown = late_same shown_item spec g.rows (row ∷ []) one_row
      (shown_added name kind settings parent spec g) refl differ there (length g.rows + 1)
      (length-append g.rows (row ∷ []))

-- want of memory is no cause
pub late_no_memory : (new : NewItem) (rows : List Row) (count : ℕ) →
    late_cause_with new rows count ≡ Some NoMemory → ⊥
unfolding late_cause_with
late_no_memory new rows count =
    none (not (list_all (λ r. nat_le (rank_with new rows r.serial) 16) rows)) (nat_lt 512 count)
    (nat_lt 2048 (item_count rows + 1))
    (not (list_all (λ r. nat_le (weight_with new rows r.serial) 4096) rows))
  where
    none : (a b c d : Bool) → late_by a b c d ≡ Some NoMemory → ⊥
    none true b c d h = cc
    none false true c d h = cc
    none false false true d h = cc
    none false false false true h = cc
    none false false false false h = cc

-- where none of the late causes comes, there is a place for the item
pub late_few : (new : NewItem) (rows : List Row) (count : ℕ) →
    late_cause_with new rows count ≡ None → item_count rows < 2048
unfolding late_cause_with
late_few new rows count none =
    let deep = no_cause (not (list_all (λ r. nat_le (rank_with new rows r.serial) 16) rows)) _ _
    none in
    let many = no_cause (nat_lt 512 count) _ _ deep.1 in
    let items = no_cause (nat_lt 2048 (item_count rows + 1)) _ _ many.1 in
    grind (arith, nat_tests, items.0)
