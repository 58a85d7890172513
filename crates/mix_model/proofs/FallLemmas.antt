-- Ranks of at most sixteen fall along every item.
use Rattle.std.proofs.Common.{◌≡◌, ℕ, ◌<◌, ◌≤◌, Bool, true, false, cond, ◌||◌, List, [], ◌∷◌, map}
use Rattle.std.proofs.Common.{find, length, ◌==◌, Option, Some, refl, ap, arith, eqb-true, eq-eqb}
use Rattle.std.proofs.Common.{ltb-true, lt-ltb, leb-true, nat_le, ne_eqb, nat_lt, IsTrue}
use Rattle.std.proofs.Common.{option_and_then, None}
use Rattle.std.specs.List.{list_all}
use Rattle.mix_model.specs.declared.row.Row.{Row}
use Rattle.mix_model.specs.declared.item.Item.{Item}
use Rattle.mix_model.specs.Sets.{greatest, rises_above}
use Rattle.mix_model.specs.Rows.{has_items, is_at, serials_of}
use Rattle.mix_model.specs.State.{GraphState}
use Rattle.mix_model.specs.Lookups.{find_row}
use Rattle.mix_model.specs.Ranks.{rank_by, rank_over, rank_in, ranks_fall, ranks_within}
use Rattle.mix_model.specs.Ranks.{fall_in, shallow_in, inside_of, inside_in}
use Rattle.mix_model.specs.Shape.{is_bare, inputs_are_bare}
use Rattle.mix_model.proofs.SetLemmas.{found_passes, and_both, and_first, and_second}
use Rattle.mix_model.proofs.RankLemmas.{rank_stands}

-- the rank of each child is below the rank of its row, within so many rounds
items_fall : (f h : ℕ → ℕ) (n : ℕ) → ((c : ℕ) → f c < n → h c ≡ f c) → (items : List Item) →
    (m : ℕ) → m ≤ n → greatest (map f (map (λ i. i.child) items)) < m →
    list_all (λ i. nat_lt (h i.child) m) items ≡ true
items_fall f h n same [] m most below = refl
items_fall f h n same (i ∷ items) m most below =
    let low : f i.child < n = omega (arith, below, most) in
    let equal : h i.child ≡ f i.child = same i.child low in
    let first : h i.child < m = omega (arith, below, equal) in
    and_both _ _ (lt-ltb (h i.child) m first)
    (items_fall f h n same items m most (omega (arith, below)))

-- a list that rises above a number rises above each lower one
pub rises_lower : (m n : ℕ) (xs : List ℕ) → m < n → rises_above n xs ≡ true →
    rises_above m xs ≡ true
rises_lower m n [] low h = refl
rises_lower m n (x ∷ xs) low h =
    let above : n < x = ltb-true n x (and_first _ _ h) in
    and_both _ _ (lt-ltb m x (omega (arith, low, above))) (and_second _ _ h)

-- rows whose serials rise above a number are all above it
pub rises_all : (m : ℕ) (rows : List Row) → rises_above m (serials_of rows) ≡ true →
    list_all (λ t. nat_lt m t.serial) rows ≡ true
rises_all m [] h = refl
rises_all m (s ∷ rows) h = and_both _ _ (and_first _ _ h) (rises_all m rows
    (rises_lower m s.serial (serials_of rows) (ltb-true m s.serial (and_first _ _ h))
    (and_second _ _ h)))

-- a row that a look-up passes over
passed_over : (x : ℕ) (s : Row) (rows : List Row) (o : Option Row) → (s.serial == x) ≡ false →
    find (is_at x) rows ≡ o → find (is_at x) (s ∷ rows) ≡ o
passed_over x s rows o other found = rw other found

apart : (a b : ℕ) → a < b → (a == b) ≡ false
apart a b below = ne_eqb a b (λ same. omega (arith, below, same))

-- where serials rise, what holds of each row that its serial finds holds of all rows
pub all_rows : (q : Row → Bool) (m : ℕ) (rows : List Row) →
    rises_above m (serials_of rows) ≡ true →
    ((r : Row) → find (is_at r.serial) rows ≡ Some r → q r ≡ true) → list_all q rows ≡ true
all_rows q m [] rises each = refl
all_rows q m (s ∷ rows) rises each =
    and_both _ _ (each s (rw (eq-eqb s.serial s.serial refl)))
    (all_rows q s.serial rows (and_second _ _ rises) (λ r found.
    let later : (is_at r.serial r ≡ true) × (nat_lt s.serial r.serial ≡ true) =
    found_passes (is_at r.serial) (λ t. nat_lt s.serial t.serial) rows r found
    (rises_all s.serial rows (and_second _ _ rises)) in
    let below : s.serial < r.serial = ltb-true s.serial r.serial later.1 in
    each r (passed_over r.serial s rows (Some r)
    (apart s.serial r.serial below) found)))

-- the same for a row that has items, or none
bare_falls : (f h : ℕ → ℕ) (n : ℕ) → ((c : ℕ) → f c < n → h c ≡ f c) → (items : List Item) →
    (b : Bool) (m : ℕ) → m ≡ rank_over f (cond b (Some (map (λ i. i.child) items)) None) → m ≤ n →
    (b || (length items == 0)) ≡ true → list_all (λ i. nat_lt (h i.child) m) items ≡ true
bare_falls f h n same items true m value most bare =
    items_fall f h n same items m most (omega (arith, value))
bare_falls f h n same [] false m value most bare = refl
bare_falls f h n same (i ∷ items) false m value most bare =
    let none : length (i ∷ items) ≡ 0 = eqb-true (length (i ∷ items)) 0 bare in
    absurd (omega (arith, none))

-- ranks fall along the items of a row that its serial finds
row_falls : (rows : List Row) (r : Row) → find_row rows r.serial ≡ Some r →
    rank_in rows r.serial ≤ 16 → is_bare r ≡ true →
    list_all (λ i. nat_lt (rank_in rows i.child) (rank_in rows r.serial)) r.items ≡ true
row_falls rows r found low bare =
    bare_falls (λ c. rank_by (inside_in rows) 16 c) (rank_in rows) 16
    (rank_stands (inside_in rows) 16) r.items (has_items r.kind) (rank_in rows r.serial)
    (ap (λ o. rank_over (λ c. rank_by (inside_in rows) 16 c) (option_and_then inside_of o)) found)
    low bare

-- ranks that are at most sixteen fall along every item
pub shallow_falls_in : (rows : List Row) → IsTrue (rises_above 0 (serials_of rows)) →
    IsTrue (list_all is_bare rows) → IsTrue (shallow_in 16 rows) → IsTrue (fall_in rows)
shallow_falls_in rows rises bare low =
    all_rows (λ r. list_all (λ i. nat_lt (rank_in rows i.child) (rank_in rows r.serial)) r.items)
    0 rows rises
    (λ r found.
    let flat = found_passes (is_at r.serial) is_bare rows r found bare in
    let shallow = found_passes (is_at r.serial) (λ t. nat_le (rank_in rows t.serial) 16) rows r
    found low in
    row_falls rows r found (leb-true (rank_in rows r.serial) 16 shallow.1) flat.1)

pub shallow_falls : (g : GraphState) → IsTrue (rises_above 0 (serials_of g.rows)) →
    IsTrue (inputs_are_bare g) → IsTrue (ranks_within 16 g) → IsTrue (ranks_fall g)
unfolding ranks_fall ranks_within
shallow_falls g rises bare low = shallow_falls_in g.rows rises bare low
