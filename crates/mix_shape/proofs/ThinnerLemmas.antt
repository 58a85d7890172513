-- Names that are taken, numbers that were not given yet, fewer holders and fewer named rows; rows
-- with fewer items, or with items in another order.
use Rattle.std.proofs.Common.{◌≡◌, ℕ, ◌+◌, ◌<◌, true, false, ◌&&◌, not, List, [], ◌∷◌, ◌++◌}
use Rattle.std.proofs.Common.{is_some, refl, ap, sym, ◌∙◌, arith, Option, Some, None, bytes_eq}
use Rattle.std.proofs.Common.{nat_lt, ◌==◌, ◌||◌, lt-ltb, ltb-true, Bool, cond, filter, inl, inr}
use Rattle.std.proofs.Common.{zero, suc, ◌≤◌, map, length, nat_le, le-leb, leb-true, eqb-true}
use Rattle.std.proofs.Common.{eq-eqb, option_map, option_and_then}
use Rattle.std.specs.List.{list_all, list_any, sum_by}
use Rattle.std.proofs.lemmas.Bool.{false_from_ne_true, both_ways, true_from_ne_false}
use Rattle.std.proofs.lemmas.List.Folds.{list_any-append, list_all-append, list_all-map}
use Rattle.mix_model.specs.declared.row.Row.{Row}
use Rattle.mix_model.specs.Sets.{has, is_distinct, greatest}
use Rattle.mix_model.specs.Rows.{serials_of, is_group, is_at, has_items, children_of, shows}
use Rattle.mix_model.specs.State.{GraphState}
use Rattle.mix_model.specs.Lookups.{find_row, registry}
use Rattle.mix_model.specs.Holders.{is_named_row, named_row_or_none, find_named, has_name, is_held}
use Rattle.mix_model.specs.Holders.{names, shows_some, is_on, lists}
use Rattle.mix_model.proofs.SetLemmas.{and_both, and_first, found_test, all_imply, and_second}
use Rattle.mix_model.proofs.SetLemmas.{and_imply, or_imply, not_imply, or_left, or_right, or_cases}
use Rattle.mix_model.proofs.DyingLemmas.{member_passes}
use Rattle.mix_model.proofs.DistinctLemmas.{row_is_listed, distinct_append}
use Rattle.mix_model.specs.Shape.{names_differ, ids_below, is_bare}
use Rattle.mix_shape.proofs.SumLemmas.{any_kept, none_all, all_none, all_sum, sum_all, sum_map}
use Rattle.mix_shape.proofs.SumLemmas.{sum_less, length_sum, sum_of_is, one_if, greatest_all}
use Rattle.mix_shape.proofs.SumLemmas.{all_greatest, distinct_times, times_distinct}
use Rattle.mix_model.specs.declared.item.Item.{Item}
use Rattle.mix_model.specs.Ranks.{inside_of, inside_in, rank_by, rank_over, rank_in, sum_of}
use Rattle.mix_model.specs.Ranks.{weight_by, weight_over, weight_in}
use Rattle.mix_model.specs.Causes.{item_count}
use Rattle.mix_model.proofs.SteadyLemmas.{Steady, steady_at, steady_found, at_same}

name_case : (g : GraphState) (name : List ℕ) (o : Option Row) → find_named g name ≡ o →
    is_some o ≡ named_row_or_none g o
name_case g name None found = refl
name_case g name (Some r) found = sym (and_first _ _
    (found_test (λ r. is_named_row g r && bytes_eq r.name name) g.rows r found))

-- a name belongs to a named row where the look-up by it finds one
pub name_found : (g : GraphState) (name : List ℕ) → is_some (find_named g name) ≡ has_name g name
name_found g name = name_case g name (find_named g name) refl

pub has_append : (x : ℕ) (xs ys : List ℕ) → has x (xs ++ ys) ≡ (has x xs || has x ys)
has_append x xs ys = list_any-append (λ y. y == x) xs ys

-- a number that all are below isn't among them
pub below_absent : (next : ℕ) (ids : List ℕ) → list_all (λ id. nat_lt id next) ids ≡ true →
    has next ids ≡ false
below_absent next ids below = false_from_ne_true _ (λ here.
    let less : next < next = ltb-true next next
    (member_passes (λ id. nat_lt id next) next ids here below) in absurd (omega (arith, less)))

-- so it differs from all, and all are below the one after it
pub differ_more : (xs : List ℕ) (next : ℕ) → is_distinct xs ≡ true →
    list_all (λ x. nat_lt x next) xs ≡ true → is_distinct (xs ++ next ∷ []) ≡ true
differ_more xs next differ below = distinct_append xs (next ∷ []) differ refl
    (and_both _ _ (ap not (below_absent next xs below)) refl)

pub below_next : (n x : ℕ) → nat_lt x n ≡ true → nat_lt x (n + 1) ≡ true
below_next n x less = lt-ltb x (n + 1) (omega (arith, ltb-true x n less))

pub below_more : (xs : List ℕ) (next : ℕ) → list_all (λ x. nat_lt x next) xs ≡ true →
    list_all (λ x. nat_lt x (next + 1)) (xs ++ next ∷ []) ≡ true
below_more xs next below = list_all-append (λ x. nat_lt x (next + 1)) xs (next ∷ [])
    ∙ and_both _ _
    (all_imply (λ x. nat_lt x next) (λ x. nat_lt x (next + 1)) (below_next next) xs below)
    (and_both _ _ (lt-ltb next (next + 1) (omega arith)) refl)

-- no row is found where its serial isn't listed, as none that wasn't given is
pub absent_row : (rows : List Row) (x : ℕ) → has x (serials_of rows) ≡ false →
    find_row rows x ≡ None
absent_row rows x absent = none_case (find_row rows x) (row_is_listed rows x ∙ absent)
  where
    none_case : (o : Option Row) → is_some o ≡ false → o ≡ None
    none_case None none = refl
    none_case (Some r) none = cc

pub fresh_row : (rows : List Row) (next : ℕ) →
    list_all (λ x. nat_lt x next) (serials_of rows) ≡ true → find_row rows next ≡ None
fresh_row rows next below = absent_row rows next (below_absent next (serials_of rows) below)

-- what is held after is held before
abbrev pub HeldLess : GraphState → GraphState → Type 0
HeldLess old new = (y : ℕ) → is_held new y ≡ true → is_held old y ≡ true

-- what is registered after was registered before
abbrev pub ListedLess : GraphState → GraphState → Type 0
ListedLess old new = (y : ℕ) → has y (registry new) ≡ true → has y (registry old) ≡ true

pub named_less : (old new : GraphState) → HeldLess old new → ListedLess old new → (r : Row) →
    is_named_row new r ≡ true → is_named_row old r ≡ true
unfolding is_named_row
named_less old new held listed r =
    or_imply _ _ _ _ (listed r.serial)
    (and_imply _ _ _ _ (λ (group : is_group r.kind ≡ true). group) (held r.serial))

-- of a part of the rows, a part by a narrower test
pub part_within : (p q : Row → Bool) → ((r : Row) → q r ≡ true → p r ≡ true) → (rows : List Row) →
    filter q (filter p rows) ≡ filter q rows
part_within p q imply [] = refl
part_within p q imply (r ∷ rows) = here (p r) refl (part_within p q imply rows)
  where
    here : (b : Bool) → p r ≡ b → filter q (filter p rows) ≡ filter q rows →
        filter q (cond b (r ∷ filter p rows) (filter p rows))
        ≡ cond (q r) (r ∷ filter q rows) (filter q rows)
    here true old rest = ap (λ rs. cond (q r) (r ∷ rs) rs) rest
    here false old rest =
        let other : q r ≡ false = false_from_ne_true _ (λ new. both_ways _ old (imply r new)) in
        rw other rest

-- names of a part differ
pub differ_part : (q : Row → Bool) (rows : List Row) → names_differ rows ≡ true →
    names_differ (filter q rows) ≡ true
differ_part q [] differ = refl
differ_part q (r ∷ rows) differ = here (q r) (differ_part q rows (and_second _ _ differ))
  where
    here : (b : Bool) → names_differ (filter q rows) ≡ true →
        names_differ (cond b (r ∷ filter q rows) (filter q rows)) ≡ true
    here true rest = and_both _ _ (not_imply _ _ (any_kept (λ s. bytes_eq s.name r.name) q rows)
        (and_first _ _ differ)) rest
    here false rest = rest

pub differ_fewer : (p q : Row → Bool) → ((r : Row) → q r ≡ true → p r ≡ true) →
    (rows : List Row) → names_differ (filter p rows) ≡ true →
    names_differ (filter q rows) ≡ true
differ_fewer p q imply rows differ = ap names_differ (sym (part_within p q imply rows))
    ∙ differ_part q (filter p rows) differ

-- what dies is still unheld
pub unheld_less : (old new : GraphState) → HeldLess old new → (xs : List ℕ) →
    list_all (λ x. not (is_held old x)) xs ≡ true → list_all (λ x. not (is_held new x)) xs ≡ true
unheld_less old new held xs = all_imply (λ x. not (is_held old x)) (λ x. not (is_held new x))
    (λ x. not_imply (is_held old x) (is_held new x) (held x)) xs

-- what holds a row, place by place: the registry, a channel, an item, a hold, a frame
module _ (g : GraphState) (x : ℕ) where
  pub held_in_registry : has x (registry g) ≡ true → is_held g x ≡ true
  unfolding is_held
  held_in_registry here = or_left _ _ here

  pub channel_holds : list_any (names x) g.channels ≡ true → is_held g x ≡ true
  unfolding is_held
  channel_holds here = or_right (has x (registry g)) _ (or_left _ _ here)

  pub item_holds : list_any (shows_some x) g.rows ≡ true → is_held g x ≡ true
  unfolding is_held
  item_holds here = or_right (has x (registry g)) _
      (or_right (list_any (names x) g.channels) _ (or_left _ _ here))

  pub hold_holds : list_any (is_on x) g.holds ≡ true → is_held g x ≡ true
  unfolding is_held
  hold_holds here = or_right (has x (registry g)) _ (or_right (list_any (names x) g.channels) _
      (or_right (list_any (shows_some x) g.rows) _ (or_left _ _ here)))

  pub frame_holds : list_any (lists x) g.frames ≡ true → is_held g x ≡ true
  unfolding is_held
  frame_holds here = or_right (has x (registry g)) _ (or_right (list_any (names x) g.channels) _
      (or_right (list_any (shows_some x) g.rows) _ (or_right (list_any (is_on x) g.holds) _ here)))

-- a named row is held
pub named_held : (g : GraphState) (r : Row) → is_named_row g r ≡ true →
    is_held g r.serial ≡ true
unfolding is_named_row
named_held g r named = elim (or_cases _ _ named) [
  | inl here ↦ held_in_registry g r.serial here
  | inr both ↦ and_second _ _ both
]

-- what such a change does to a row: no sum over its items grows, and the rest stays
pub record Thinner (h : Row → Row) : Type 0 where
  pub steady : Steady h
  pub name : (r : Row) → (h r).name ≡ r.name
  pub settings : (r : Row) → (h r).settings ≡ r.settings
  pub sound : (r : Row) → (h r).sound ≡ r.sound
  pub next : (r : Row) → (h r).next_item ≡ r.next_item
  pub less : (f : Item → ℕ) (r : Row) → sum_by f (h r).items ≤ sum_by f r.items

-- a change of the row of one serial is such a change where the change of that row is
pub thinner_at : (x : ℕ) (change : Row → Row) → Thinner change →
    Thinner (λ r. cond (is_at x r) (change r) r)
thinner_at x change t = record {
  steady = steady_at x change t.steady;
  name = λ r. at_same (λ (s : Row). s.name) (is_at x r) (change r) r (t.name r);
  settings = λ r. at_same (λ (s : Row). s.settings) (is_at x r) (change r) r (t.settings r);
  sound = λ r. at_same (λ (s : Row). s.sound) (is_at x r) (change r) r (t.sound r);
  next = λ r. at_same (λ (s : Row). s.next_item) (is_at x r) (change r) r (t.next r);
  less = λ f r. at_less f r (is_at x r);
} where
  at_less : (f : Item → ℕ) (r : Row) (here : Bool) →
      sum_by f (cond here (change r) r).items ≤ sum_by f r.items
  at_less f r true = t.less f r
  at_less f r false = omega arith

-- lighter: whatever its children's ranks and weights are, if they are no greater then its own aren't
abbrev pub Lighter : Option (List ℕ) → Option (List ℕ) → Type 0
Lighter o p = (f k : ℕ → ℕ) → ((c : ℕ) → f c ≤ k c) →
    (rank_over f o ≤ rank_over k p) × (weight_over f o ≤ weight_over k p)

pub all_lighter : (inner other : ℕ → Option (List ℕ)) →
    ((x : ℕ) → Lighter (inner x) (other x)) → (n x : ℕ) →
    (rank_by inner n x ≤ rank_by other n x) × (weight_by inner n x ≤ weight_by other n x)
all_lighter inner other light zero x = (omega arith, omega arith)
all_lighter inner other light (suc n) x = (
  (light x (λ c. rank_by inner n c) (λ c. rank_by other n c)
      (λ c. (all_lighter inner other light n c).0)).0,
  (light x (λ c. weight_by inner n c) (λ c. weight_by other n c)
      (λ c. (all_lighter inner other light n c).1)).1,
)

-- a row without items weighs least
pub none_lighter : (o : Option (List ℕ)) → Lighter None o
none_lighter None f k low = (omega arith, omega arith)
none_lighter (Some xs) f k low = (omega arith, omega arith)

pub same_lighter : (o : Option (List ℕ)) → Lighter o o
same_lighter None f k low = (omega arith, omega arith)
same_lighter (Some xs) f k low =
    let deep : greatest (map f xs) ≤ greatest (map k xs) =
    all_greatest f k (greatest (map k xs)) low xs
    (greatest_all k (greatest (map k xs)) xs (omega arith)) in
    let heavy : sum_of (map f xs) ≤ sum_of (map k xs) = sums f k low xs in
    (omega (arith, deep), omega (arith, heavy))
  where
    sums : (f k : ℕ → ℕ) → ((c : ℕ) → f c ≤ k c) → (xs : List ℕ) →
        sum_of (map f xs) ≤ sum_of (map k xs)
    sums f k low [] = omega arith
    sums f k low (x ∷ xs) = omega (arith, low x, sums f k low xs)

pub shallow_lighter : (most : ℕ) (rows after : List Row) →
    ((x : ℕ) → Lighter (inside_in after x) (inside_in rows x)) → (r : Row) →
    nat_le (rank_in rows r.serial) most ≡ true → nat_le (rank_in after r.serial) most ≡ true
shallow_lighter most rows after light r low =
    le-leb (rank_in after r.serial) most (omega (
      arith,
      leb-true (rank_in rows r.serial) most low,
      (all_lighter (inside_in after) (inside_in rows) light 17 r.serial).0,
    ))

pub light_lighter : (most : ℕ) (rows after : List Row) →
    ((x : ℕ) → Lighter (inside_in after x) (inside_in rows x)) → (r : Row) →
    nat_le (weight_in rows r.serial) most ≡ true → nat_le (weight_in after r.serial) most ≡ true
light_lighter most rows after light r low =
    le-leb (weight_in after r.serial) most (omega (
      arith,
      leb-true (weight_in rows r.serial) most low,
      (all_lighter (inside_in after) (inside_in rows) light 17 r.serial).1,
    ))

module _ (h : Row → Row) (t : Thinner h) where
  -- what all items passed
  pub part : (p : Item → Bool) (r : Row) → list_all p r.items ≡ true →
      list_all p (h r).items ≡ true
  part p r all = sum_all p (h r).items
      (omega (arith, t.less (λ i. one_if (not (p i))) r, all_sum p r.items all))

  -- no id is there twice
  pub ids_kept : (r : Row) → ids_below r.next_item (map (λ i. i.id) r.items) ≡ true →
      ids_below (h r).next_item (map (λ i. i.id) (h r).items) ≡ true
  ids_kept r ids =
      let once : is_distinct (map (λ (i : Item). i.id) (h r).items) ≡ true =
      times_distinct (map (λ (i : Item). i.id) (h r).items) (λ x.
      omega (
        arith,
        sum_map (λ y. one_if (y == x)) (λ (i : Item). i.id) (h r).items,
        sum_map (λ y. one_if (y == x)) (λ (i : Item). i.id) r.items,
        t.less (λ i. one_if (i.id == x)) r,
        distinct_times (map (λ (i : Item). i.id) r.items) (and_first _ _ ids) x,
      )) in
      let below : list_all (λ id. nat_lt id r.next_item) (map (λ (i : Item). i.id) (h r).items)
      ≡ true =
      list_all-map (λ id. nat_lt id r.next_item) (λ (i : Item). i.id) (h r).items
      ∙ part (λ i. nat_lt i.id r.next_item) r
      (sym (list_all-map (λ id. nat_lt id r.next_item) (λ (i : Item). i.id) r.items)
      ∙ and_second _ _ ids) in
      rw (t.next r) (and_both _ _ once below)

  -- it shows nothing new
  pub shows_less : (x : ℕ) (r : Row) → shows_some x (h r) ≡ true → shows_some x r ≡ true
  shows_less x r shown = true_from_ne_false _ (λ none. both_ways _
      (all_none (shows x) (h r).items
      (part (λ i. not (shows x i)) r (none_all (shows x) r.items none))) shown)

  -- it has no more items
  pub fewer : (r : Row) → length (h r).items ≤ length r.items
  fewer r =
      omega (arith, length_sum (h r).items, length_sum r.items, t.less (λ i. 1) r)

  pub count_fewer : (rows : List Row) → item_count (map h rows) ≤ item_count rows
  count_fewer rows =
      omega (
        arith,
        sum_map (λ (r : Row). length r.items) h rows,
        sum_less (λ (r : Row). length (h r).items) (λ (r : Row). length r.items) fewer rows,
      )

  pub bare_kept : (r : Row) → is_bare r ≡ true → is_bare (h r) ≡ true
  bare_kept r bare = rw (t.steady.kind r) (bare_case (has_items r.kind) bare)
    where
      bare_case : (b : Bool) → (b || (length r.items == 0)) ≡ true →
          (b || (length (h r).items == 0)) ≡ true
      bare_case true h2 = refl
      bare_case false h2 = eq-eqb (length (h r).items) 0
          (omega (arith, fewer r, eqb-true (length r.items) 0 h2))

  -- no row gets deeper or heavier
  lighter_row : (r : Row) → Lighter (inside_of (h r)) (inside_of r)
  lighter_row r f k low =
      rw (t.steady.kind r) (row_case (has_items r.kind))
    where
      deep : greatest (map f (children_of (h r))) ≤ greatest (map k (children_of r))
      deep =
          let m : ℕ = greatest (map k (children_of r)) in
          let before : list_all (λ c. nat_le (k c) m) (children_of r) ≡ true =
          greatest_all k m (children_of r) (omega arith) in
          let items : list_all (λ (i : Item). nat_le (k i.child) m) (h r).items ≡ true =
          part (λ i. nat_le (k i.child) m) r
          (sym (list_all-map (λ c. nat_le (k c) m) (λ (i : Item). i.child) r.items) ∙ before) in
          all_greatest f k m low (children_of (h r))
          (list_all-map (λ c. nat_le (k c) m) (λ (i : Item). i.child) (h r).items ∙ items)

      heavy : sum_of (map f (children_of (h r))) ≤ sum_of (map k (children_of r))
      heavy =
          omega (
            arith,
            sum_of_is f (λ (i : Item). i.child) (h r).items,
            sum_of_is k (λ (i : Item). i.child) r.items,
            t.less (λ i. f i.child) r,
            sum_less (λ (i : Item). f i.child) (λ (i : Item). k i.child) (λ i. low i.child) r.items,
          )

      row_case : (b : Bool) →
          (rank_over f (cond b (Some (children_of (h r))) None)
          ≤ rank_over k (cond b (Some (children_of r)) None))
          × (weight_over f (cond b (Some (children_of (h r))) None)
          ≤ weight_over k (cond b (Some (children_of r)) None))
      row_case true = (omega (arith, deep), omega (arith, heavy))
      row_case false = (omega arith, omega arith)

  lighter_found : (o : Option Row) →
      Lighter (option_and_then inside_of (option_map h o)) (option_and_then inside_of o)
  lighter_found None = none_lighter None
  lighter_found (Some r) = lighter_row r

  pub lighter_rows : (rows : List Row) (x : ℕ) →
      Lighter (inside_in (map h rows) x) (inside_in rows x)
  lighter_rows rows x = rw (steady_found h t.steady rows x) (lighter_found (find_row rows x))
