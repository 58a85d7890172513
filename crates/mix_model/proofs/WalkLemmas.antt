-- The test for a walk, and walks.
use Rattle.std.proofs.Common.{◌≡◌, ℕ, zero, suc, ◌<◌, ◌≤◌, true, false, cond, List, [], ◌∷◌, map}
use Rattle.std.proofs.Common.{filter, length, Option, Some, None, refl, subst, arith, eqb-true}
use Rattle.std.proofs.Common.{ltb-true, nat_lt, inl, inr, ◌↔◌, IsTrue}
use Rattle.std.specs.List.{list_all}
use Rattle.std.specs.Option.{option_map_or}
use Rattle.mix_model.specs.declared.row.Row.{Row}
use Rattle.mix_model.specs.declared.item.Item.{Item}
use Rattle.mix_model.specs.Sets.{has, greatest}
use Rattle.mix_model.specs.Rows.{visible_children_of, is_visible, is_at}
use Rattle.mix_model.specs.State.{GraphState}
use Rattle.mix_model.specs.Lookups.{find_row, visible_in, channel_roots}
use Rattle.mix_model.specs.Ranks.{rank_in, rank_by, rank_over, ranks_fall, fall_in, inside_in}
use Rattle.mix_model.specs.Walks.{goes_along, leads, most_steps, is_walked, Reached, is_reached}
use Rattle.mix_model.specs.Walks.{Active, Showing, is_active, is_showing, showing_roots}
use Rattle.mix_model.proofs.SetLemmas.{or_cases, or_left, or_right, and_both, and_first, and_second}
use Rattle.mix_model.proofs.SetLemmas.{any_member, member_any, found_passes}

-- what the test finds is a walk
leads_walk : (next : ℕ → List ℕ) (n from to : ℕ) → leads next n from to ≡ true →
    (rest : List ℕ) × (goes_along next from rest to ≡ true)
leads_walk next zero from to h = ([], h)
leads_walk next (suc n) from to h = elim (or_cases _ _ h) [
  | inl same ↦ ([], same)
  | inr more ↦ let found = any_member (λ x. leads next n x to) (next from) more in
      let walk = leads_walk next n found.0 to found.2 in
      (found.0 ∷ walk.0, and_both _ _ found.1 walk.1)
]

-- a walk that is no longer than the rounds is found
walk_leads : (next : ℕ → List ℕ) (rest : List ℕ) (n from to : ℕ) → length rest ≤ n →
    goes_along next from rest to ≡ true → leads next n from to ≡ true
walk_leads next [] zero from to short h = h
walk_leads next [] (suc n) from to short h = or_left _ _ h
walk_leads next (x ∷ rest) zero from to short h = absurd (omega (arith, short))
walk_leads next (x ∷ rest) (suc n) from to short h =
    let within : length rest ≤ n = omega (arith, short) in
    or_right _ _ (member_any (λ y. leads next n y to) x (next from) (and_first _ _ h)
    (walk_leads next rest n x to within (and_second _ _ h)))

-- a rank is at most the rounds
greatest_bounded : (f : ℕ → ℕ) (n : ℕ) → ((c : ℕ) → f c ≤ n) → (xs : List ℕ) →
    greatest (map f xs) ≤ n
greatest_bounded f n each [] = omega arith
greatest_bounded f n each (x ∷ xs) = omega (arith, each x, greatest_bounded f n each xs)

inner_bounded : (f : ℕ → ℕ) (n : ℕ) → ((c : ℕ) → f c ≤ n) → (o : Option (List ℕ)) →
    rank_over f o ≤ suc n
inner_bounded f n each None = omega arith
inner_bounded f n each (Some xs) = omega (arith, greatest_bounded f n each xs)

pub rank_bounded : (inner : ℕ → Option (List ℕ)) (n x : ℕ) → rank_by inner n x ≤ n
rank_bounded inner zero x = omega arith
rank_bounded inner (suc n) x =
    inner_bounded (λ c. rank_by inner n c) n (rank_bounded inner n) (inner x)

-- the rank of a visible child is below each bound that all children's ranks are below
item_falls : (f : ℕ → ℕ) (m x : ℕ) (items : List Item) →
    list_all (λ i. nat_lt (f i.child) m) items ≡ true →
    has x (map (λ i. i.child) (filter is_visible items)) ≡ true → f x < m
item_falls f m x [] all h = cc
item_falls f m x (i ∷ items) all h =
    (elim (is_visible i) as (λ b. has x (map (λ j. j.child)
    (cond b (i ∷ filter is_visible items) (filter is_visible items))) ≡ true → f x < m) [
      | true ↦ λ seen. elim (or_cases _ _ seen) [
        | inl here ↦ subst (λ c. f c < m) (eqb-true i.child x here)
            (ltb-true (f i.child) m (and_first _ _ all))
        | inr there ↦ item_falls f m x items (and_second _ _ all) there
      ]
      | false ↦ λ seen. item_falls f m x items (and_second _ _ all) seen
    ]) h

-- ranks fall along a visible item
row_falls : (rows : List Row) → fall_in rows ≡ true → (from x : ℕ) (row : Option Row) →
    find_row rows from ≡ row → has x (option_map_or visible_children_of row []) ≡ true →
    rank_in rows x < rank_in rows from
row_falls rows fall from x None found h = cc
row_falls rows fall from x (Some row) found h =
    let passed = found_passes (is_at from)
    (λ r. list_all (λ i. nat_lt (rank_in rows i.child) (rank_in rows r.serial)) r.items)
    rows row found fall in
    subst (λ s. rank_in rows x < rank_in rows s) (eqb-true row.serial from passed.0)
    (item_falls (rank_in rows) (rank_in rows row.serial) x row.items passed.1 h)

-- a walk is no longer than the rank of its first row
walk_short : (rows : List Row) → fall_in rows ≡ true → (rest : List ℕ) (from to : ℕ) →
    goes_along (visible_in rows) from rest to ≡ true → length rest ≤ rank_in rows from
walk_short rows fall [] from to h = omega arith
walk_short rows fall (x ∷ rest) from to h =
    let below : rank_in rows x < rank_in rows from =
    row_falls rows fall from x (find_row rows from) refl (and_first _ _ h) in
    omega (arith, below, walk_short rows fall rest x to (and_second _ _ h))

-- a row is reached exactly when the test finds it
reached_found : (g : GraphState) (roots : List ℕ) (x : ℕ) → is_reached g roots x ≡ true →
    Reached g roots x
reached_found g roots x h =
    let found = any_member (λ root. is_walked g root x) roots (and_second _ _ h) in
    let walk = leads_walk (visible_in g.rows) most_steps found.0 x found.2 in
    record {
      row = and_first _ _ h;
      root = found.0;
      rooted = found.1;
      walk = record { rest = walk.0; walks = walk.1 };
    }

found_reached : (g : GraphState) → fall_in g.rows ≡ true → (roots : List ℕ) (x : ℕ) →
    Reached g roots x → is_reached g roots x ≡ true
found_reached g fall roots x r =
    let short : length r.walk.rest ≤ most_steps =
    omega (
      arith,
      walk_short g.rows fall r.walk.rest r.root x r.walk.walks,
      rank_bounded (inside_in g.rows) 17 r.root,
    ) in
    and_both _ _ r.row (member_any (λ root. is_walked g root x) r.root roots r.rooted
    (walk_leads (visible_in g.rows) r.walk.rest most_steps r.root x short r.walk.walks))

pub active_agrees : (g : GraphState) → IsTrue (ranks_fall g) → (x : ℕ) →
    IsTrue (is_active g x) ↔ Active g x
unfolding is_active ranks_fall
active_agrees g fall x =
    (reached_found g (channel_roots g) x, found_reached g fall (channel_roots g) x)

pub showing_agrees : (g : GraphState) → IsTrue (ranks_fall g) → (x : ℕ) →
    IsTrue (is_showing g x) ↔ Showing g x
unfolding is_showing ranks_fall
showing_agrees g fall x =
    (reached_found g (showing_roots g) x, found_reached g fall (showing_roots g) x)
