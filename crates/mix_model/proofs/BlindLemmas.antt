-- A change of rows that neither their serials nor their kinds, children and item ids see.
use Rattle.std.proofs.Common.{◌≡◌, ℕ, ◌+◌, ◌==◌, Bool, true, cond, ◌&&◌, ◌||◌}
use Rattle.std.proofs.Common.{List, [], ◌∷◌, map, length, Option, Some, None, refl, ap, sym}
use Rattle.std.proofs.Common.{option_map, option_and_then, nat_le, fold, ◌∙◌}
use Rattle.std.specs.List.{list_any, list_all}
use Rattle.std.proofs.lemmas.List.{length-map}
use Rattle.mix_model.specs.declared.item.Item.{Item}
use Rattle.mix_model.specs.declared.row.Row.{Row}
use Rattle.mix_model.specs.Sets.{has}
use Rattle.mix_model.specs.Rows.{children_of, is_at, shows}
use Rattle.mix_model.specs.State.{GraphState}
use Rattle.mix_model.specs.Lookups.{find_row}
use Rattle.mix_model.specs.Holders.{is_held, is_named_row, shows_some}
use Rattle.mix_model.specs.Ranks.{inside_of, inside_in, rank_over, rank_in, weight_over, weight_in}
use Rattle.mix_model.specs.Ranks.{shallow_in, light_in}
use Rattle.mix_model.specs.Causes.{item_count}
use Rattle.mix_model.specs.Shape.{ids_below, is_bare}
use Rattle.mix_model.proofs.SettleLemmas.{any_changed}
use Rattle.mix_model.proofs.AlikeLemmas.{Alike, rank_alike, weight_alike, inside_any}
use Rattle.mix_model.proofs.SteadyLemmas.{Steady, steady_at, steady_found, at_same}

-- what such a change leaves as it was
pub record Blind (h : Row → Row) : Type 0 where
  pub steady : Steady h
  pub children : (r : Row) → children_of (h r) ≡ children_of r
  pub ids : (r : Row) → map (λ i. i.id) (h r).items ≡ map (λ i. i.id) r.items
  pub next : (r : Row) → (h r).next_item ≡ r.next_item

-- a change of the row of one serial is such a change where the change of that row is
pub blind_at : (x : ℕ) (change : Row → Row) → Blind change →
    Blind (λ r. cond (is_at x r) (change r) r)
blind_at x change b = record {
  steady = steady_at x change b.steady;
  children = λ r. at_same children_of (is_at x r) (change r) r (b.children r);
  ids = λ r. at_same (λ (t : Row). map (λ i. i.id) t.items) (is_at x r) (change r) r (b.ids r);
  next = λ r. at_same (λ (t : Row). t.next_item) (is_at x r) (change r) r (b.next r);
}

-- equal tests of all elements
pub all_congr : {X : Type 0} (p q : X → Bool) → ((x : X) → p x ≡ q x) → (xs : List X) →
    list_all p xs ≡ list_all q xs
all_congr p q same [] = refl
all_congr p q same (x ∷ xs) = rw (same x, all_congr p q same xs)

-- a test of children is a test of the list of them
all_children : (q : ℕ → Bool) (items : List Item) →
    list_all (λ i. q i.child) items ≡ list_all q (map (λ i. i.child) items)
all_children q [] = refl
all_children q (i ∷ items) = ap (λ b. q i.child && b) (all_children q items)

any_children : (x : ℕ) (items : List Item) →
    list_any (shows x) items ≡ has x (map (λ i. i.child) items)
any_children x [] = refl
any_children x (i ∷ items) = ap (λ b. (i.child == x) || b) (any_children x items)

count_children : (items : List Item) → length items ≡ length (map (λ i. i.child) items)
count_children items = sym (length-map items (λ i. i.child))

module _ (h : Row → Row) (b : Blind h) where
  insides : (o : Option Row) →
      option_and_then inside_of (option_map h o) ≡ option_and_then inside_of o
  insides None = refl
  insides (Some r) = rw (b.steady.kind r, b.children r)

  pub inside_same : (rows : List Row) (x : ℕ) → inside_in (map h rows) x ≡ inside_in rows x
  inside_same rows x =
      ap (option_and_then inside_of) (steady_found h b.steady rows x)
      ∙ insides (find_row rows x)

  alike_in : (rows : List Row) (x : ℕ) → Alike (inside_in (map h rows) x) (inside_in rows x)
  alike_in rows x f = (ap (rank_over f) (inside_same rows x), ap (weight_over f) (inside_same rows x))

  pub rank_same : (rows : List Row) (x : ℕ) → rank_in (map h rows) x ≡ rank_in rows x
  rank_same rows x = rank_alike (λ y. true) (inside_in (map h rows)) (inside_in rows)
      (λ y here. alike_in rows y) (λ y here. inside_any (inside_in rows y)) 17 x refl

  pub weight_same : (rows : List Row) (x : ℕ) → weight_in (map h rows) x ≡ weight_in rows x
  weight_same rows x = weight_alike (λ y. true) (inside_in (map h rows)) (inside_in rows)
      (λ y here. alike_in rows y) (λ y here. inside_any (inside_in rows y)) 17 x refl

  -- a test of each child
  pub children_all : (q : ℕ → Bool) (r : Row) →
      list_all (λ i. q i.child) (h r).items ≡ list_all (λ i. q i.child) r.items
  children_all q r = all_children q (h r).items ∙ ap (list_all q) (b.children r)
      ∙ sym (all_children q r.items)

  -- a test of each row that is the same for the changed row
  pub all_rows_same : (p q : Row → Bool) → ((r : Row) → p (h r) ≡ q r) → (rows : List Row) →
      list_all p (map h rows) ≡ list_all q rows
  all_rows_same p q same [] = refl
  all_rows_same p q same (r ∷ rows) = rw (same r, all_rows_same p q same rows)

  pub shallow_same : (most : ℕ) (rows : List Row) →
      shallow_in most (map h rows) ≡ shallow_in most rows
  shallow_same most rows =
      all_rows_same (λ r. nat_le (rank_in (map h rows) r.serial) most)
      (λ r. nat_le (rank_in rows r.serial) most)
      (λ r. ap (λ s. nat_le (rank_in (map h rows) s) most) (b.steady.serial r)
      ∙ ap (λ n. nat_le n most) (rank_same rows r.serial)) rows

  pub light_same : (most : ℕ) (rows : List Row) → light_in most (map h rows) ≡ light_in most rows
  light_same most rows =
      all_rows_same (λ r. nat_le (weight_in (map h rows) r.serial) most)
      (λ r. nat_le (weight_in rows r.serial) most)
      (λ r. ap (λ s. nat_le (weight_in (map h rows) s) most) (b.steady.serial r)
      ∙ ap (λ n. nat_le n most) (weight_same rows r.serial)) rows

  lengths : (r : Row) → length (h r).items ≡ length r.items
  lengths r = count_children (h r).items ∙ ap length (b.children r) ∙ sym (count_children r.items)

  count_from : (rows : List Row) (a : ℕ) → fold (λ n r. n + length r.items) a (map h rows)
      ≡ fold (λ n r. n + length r.items) a rows
  count_from [] a = refl
  count_from (r ∷ rows) a =
      ap (λ n. fold (λ m s. m + length s.items) (a + n) (map h rows)) (lengths r)
      ∙ count_from rows (a + length r.items)

  pub count_same : (rows : List Row) → item_count (map h rows) ≡ item_count rows
  count_same rows = count_from rows 0

  pub bare_same : (rows : List Row) → list_all is_bare (map h rows) ≡ list_all is_bare rows
  bare_same rows = all_rows_same is_bare is_bare (λ r. rw (b.steady.kind r, lengths r)) rows

  pub ids_same : (rows : List Row) →
      list_all (λ r. ids_below r.next_item (map (λ i. i.id) r.items)) (map h rows)
      ≡ list_all (λ r. ids_below r.next_item (map (λ i. i.id) r.items)) rows
  ids_same rows = all_rows_same (λ r. ids_below r.next_item (map (λ i. i.id) r.items))
      (λ r. ids_below r.next_item (map (λ i. i.id) r.items))
      (λ r. ap (λ n. ids_below n (map (λ i. i.id) (h r).items)) (b.next r)
      ∙ ap (ids_below r.next_item) (b.ids r)) rows

  -- the sources with these rows
  abbrev pub changed : GraphState → GraphState
  changed g = record g { rows = map h g.rows }

  pub held_same : (g : GraphState) (x : ℕ) → is_held (changed g) x ≡ is_held g x
  unfolding is_held
  held_same g x = rw (any_changed (shows_some x) h
      (λ r. any_children x (h r).items ∙ ap (has x) (b.children r) ∙ sym (any_children x r.items))
      g.rows)

  pub named_same : (g : GraphState) (r : Row) →
      is_named_row (changed g) (h r) ≡ is_named_row g r
  unfolding is_named_row
  named_same g r = rw (b.steady.serial r, b.steady.kind r, held_same g r.serial)
