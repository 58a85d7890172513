use Rattle.std.proofs.Common.{◌≡◌, ℕ, zero, suc, ◌+◌, ◌<◌, ◌≤◌, ◌==◌, Bool, true, false, cond, not}
use Rattle.std.proofs.Common.{List, [], ◌∷◌, ◌++◌, length, map, filter, take, drop, get_or, Option}
use Rattle.std.proofs.Common.{refl, sym, ap, ◌∙◌, arith}
use Rattle.std.proofs.Common.{add-one}
use Rattle.slab.specs.Slab.{Slab}
use Rattle.mix_fanout.specs.declared.kept.Kept.{Kept}
use Rattle.mix_fanout.proofs.InPlace.{not_reached}
use Rattle.mix_fanout.specs.Keys.{LetGo, held, Lined, times, total, is_line, keys_at, takes, takers}
use Rattle.mix_fanout.specs.Keys.{posted_line, cleared_line}

-- a key stands in two lists as often as in each
pub times_append : (k : ℕ) (xs ys : List ℕ) → times k (xs ++ ys) ≡ times k xs + times k ys
times_append k [] ys = omega arith
times_append k (x ∷ xs) ys = omega (arith, times_append k xs ys)

-- one more key stands in the list where it is put there
times_posted : (k key : ℕ) (b : Bool) (keys : List ℕ) → times k (cond b (keys ++ key ∷ []) keys) ≡
    times k keys + cond (key == k) (cond b 1 0) 0
times_posted k key true keys = omega (arith, times_append k keys (key ∷ []))
times_posted k key false keys = elim (key == k) as (λ e. times k keys ≡ times k keys + cond e 0 0)
    [ true ↦ omega arith | false ↦ omega arith ]

-- a count of two parts
split_count : (e : Bool) (a b : ℕ) → cond e (a + b) 0 ≡ cond e a 0 + cond e b 0
split_count true a b = refl
split_count false a b = refl

-- a posted key stands once more in the list of each taker
pub total_posted : (k key bit : ℕ) (but : Option ℕ) (ls : List Lined) →
    total k (map (posted_line key bit but) ls) ≡ total k ls + cond (key == k) (takers bit but ls) 0
total_posted k key bit but [] = elim (key == k) as (λ e. 0 ≡ 0 + cond e 0 0)
    [ true ↦ refl | false ↦ refl ]
total_posted k key bit but (l ∷ ls) =
    let here : times k (posted_line key bit but l).keys ≡ times k l.keys + cond (key == k)
    (cond (takes bit but l) 1 0) 0 = times_posted k key (takes bit but l) l.keys in
    let rest : total k (map (posted_line key bit but) ls) ≡ total k ls + cond (key == k)
    (takers bit but ls) 0 = total_posted k key bit but ls in
    let both : cond (key == k) (cond (takes bit but l) 1 0 + takers bit but ls) 0 ≡ cond (key == k)
    (cond (takes bit but l) 1 0) 0 + cond (key == k) (takers bit but ls) 0 =
    split_count (key == k) (cond (takes bit but l) 1 0) (takers bit but ls) in
    omega (arith, here, rest, both)

-- what is cleared is what waited for the connection
pub total_cleared : (k conn : ℕ) (ls : List Lined) → total k (map (cleared_line conn) ls) + times k
    (keys_at conn ls) ≡ total k ls
total_cleared k conn [] = refl
total_cleared k conn (l ∷ ls) = elim (is_line conn l) as
    (λ b. times k (cond b [] l.keys) + total k (map (cleared_line conn) ls) + times k
    (cond b l.keys [] ++ keys_at conn ls) ≡ times k l.keys + total k ls) [
      | true ↦ omega (arith, times_append k l.keys (keys_at conn ls), total_cleared k conn ls)
      | false ↦ omega (arith, total_cleared k conn ls)
    ]

-- what goes is what waited for the connection
pub total_left : (k conn : ℕ) (ls : List Lined) → total k (filter (λ l. not (is_line conn l)) ls) +
    times k (keys_at conn ls) ≡ total k ls
total_left k conn [] = refl
total_left k conn (l ∷ ls) = elim (is_line conn l) as (λ b. total k
    (cond (not b) (l ∷ filter (λ l. not (is_line conn l)) ls)
    (filter (λ l. not (is_line conn l)) ls)) + times k (cond b l.keys [] ++ keys_at conn ls) ≡ times
    k l.keys + total k ls) [
      | true ↦ omega (arith, times_append k l.keys (keys_at conn ls), total_left k conn ls)
      | false ↦ omega (arith, total_left k conn ls)
    ]

-- the same keys stand as often
pub total_same : (f : Lined → Lined) (k : ℕ) (ls : List Lined) →
    ((l : Lined) → (f l).keys ≡ l.keys) → total k (map f ls) ≡ total k ls
total_same f k [] same = refl
total_same f k (l ∷ ls) same = omega (arith, ap (times k) (same l), total_same f k ls same)

-- the same over lists of connections
pub total_append : (k : ℕ) (ls ms : List Lined) → total k (ls ++ ms) ≡ total k ls + total k ms
total_append k [] ms = omega arith
total_append k (l ∷ ls) ms = omega (arith, total_append k ls ms)

-- the takers one list further
pub takers_more : (bit : ℕ) (but : Option ℕ) (xs : List Lined) (i : ℕ) (d : Lined) → i < length xs →
    takers bit but (take (suc i) xs) ≡ takers bit but (take i xs) + cond
    (takes bit but (get_or xs i d)) 1 0
takers_more bit but [] i d inside = absurd (omega arith)
takers_more bit but (x ∷ xs) zero d inside = omega arith
takers_more bit but (x ∷ xs) (suc i) d inside = omega (
  arith,
  takers_more bit but xs i d (omega arith),
)

-- the takers are counted one list further
pub counted_more : (key bit : ℕ) (but : Option ℕ) (xs ys : List Lined) (i : ℕ) (d : Lined)
    (b : Bool) (n m : ℕ) → i < length xs → ys ≡ map (posted_line key bit but) (take i xs) ++ drop i
    xs → b ≡ takes bit but (get_or ys i d) → n ≡ takers bit but (take i xs) → m ≡ n + cond b 1 0 →
    m ≡ takers bit but (take (i + 1) xs)
counted_more key bit but xs ys i d b n m inside so_far answer count more =
    let here : b ≡ takes bit but (get_or xs i d) = answer ∙
    ap (λ l. takes bit but (get_or l i d)) so_far ∙ ap (takes bit but)
    (not_reached (posted_line key bit but) xs i d inside) in
    rw add-one (more ∙ ap (λ t. n + cond t 1 0) here ∙ ap
    (λ k. k + cond (takes bit but (get_or xs i d)) 1 0) count ∙
    sym (takers_more bit but xs i d inside))

-- a key further in a list
times_next : (k : ℕ) (keys : List ℕ) (i d : ℕ) → i < length keys →
    times k (take (suc i) keys) ≡ times k (take i keys) + times k (get_or keys i d ∷ [])
times_next k [] i d inside = absurd (omega arith)
times_next k (x ∷ keys) zero d inside = omega arith
times_next k (x ∷ keys) (suc i) d inside = omega (arith, times_next k keys i d (omega arith))

-- a key further in a list
pub times_more : (k : ℕ) (keys : List ℕ) (i d : ℕ) → i < length keys →
    times k (take (i + 1) keys) ≡ times k (take i keys) + times k (get_or keys i d ∷ [])
times_more k keys i d inside = rw add-one (times_next k keys i d inside)

-- in a part of a list a key stands no more often
pub times_part : (k : ℕ) (keys : List ℕ) (i : ℕ) → times k (take i keys) ≤ times k keys
times_part k [] zero = omega arith
times_part k [] (suc i) = omega arith
times_part k (x ∷ keys) zero = omega arith
times_part k (x ∷ keys) (suc i) = omega (arith, times_part k keys i)

-- a key alone stands once
stands : (k : ℕ) → times k (k ∷ []) ≡ 1
stands k = grind arith

-- the next key is still held
pub held_next : (old new : Slab Kept) (keys : List ℕ) (i d : ℕ) → i < length keys →
    ((k : ℕ) → times k keys ≤ held old k) → LetGo old new (take i keys) →
    0 < held new (get_or keys i d)
held_next old new keys i d inside enough g =
    let k : ℕ = get_or keys i d in
    omega (
      arith,
      g.counts (get_or keys i d),
      enough (get_or keys i d),
      times_part (get_or keys i d) keys (i + 1),
      times_more (get_or keys i d) keys i d inside,
      stands (get_or keys i d),
    )

-- some are let go, and then others
pub let_go_both : (old mid new : Slab Kept) (keys more all : List ℕ) →
    ((k : ℕ) → times k all ≡ times k keys + times k more) → LetGo old mid keys →
    LetGo mid new more → LetGo old new all
let_go_both old mid new keys more all both g h = record {
  counts = λ k. omega (arith, both k, g.counts k, h.counts k);
  same = λ k some. h.same k some ∙ g.same k (omega (arith, some, h.counts k));
  room = λ room has. h.room room (g.room room has);
}

-- none is let go
pub let_go_same : (old new : Slab Kept) (keys all : List ℕ) →
    ((k : ℕ) → times k all ≡ times k keys) → LetGo old new keys → LetGo old new all
let_go_same old new keys all same g = record {
  counts = λ k. omega (arith, same k, g.counts k);
  same = g.same;
  room = g.room;
}

-- a list further
keys_at_next : (k conn : ℕ) (ls : List Lined) (i : ℕ) (d : Lined) → i < length ls →
    times k (keys_at conn (take (suc i) ls)) ≡ times k (keys_at conn (take i ls)) + times k
    (cond (is_line conn (get_or ls i d)) (get_or ls i d).keys [])
keys_at_next k conn [] i d inside = absurd (omega arith)
keys_at_next k conn (l ∷ ls) zero d inside = omega (
  arith,
  times_append k (cond (is_line conn l) l.keys []) [],
)
keys_at_next k conn (l ∷ ls) (suc i) d inside = omega (
  arith,
  times_append k (cond (is_line conn l) l.keys []) (keys_at conn (take (suc i) ls)),
  times_append k (cond (is_line conn l) l.keys []) (keys_at conn (take i ls)),
  keys_at_next k conn ls i d (omega arith),
)

-- a list further
pub keys_at_more : (k conn : ℕ) (ls : List Lined) (i : ℕ) (d : Lined) → i < length ls →
    times k (keys_at conn (take (i + 1) ls)) ≡ times k (keys_at conn (take i ls)) + times k
    (cond (is_line conn (get_or ls i d)) (get_or ls i d).keys [])
keys_at_more k conn ls i d inside = rw add-one (keys_at_next k conn ls i d inside)

-- in the first lists a key stands no more often
pub keys_at_part : (k conn : ℕ) (ls : List Lined) (i : ℕ) →
    times k (keys_at conn (take i ls)) ≤ times k (keys_at conn ls)
keys_at_part k conn [] zero = omega arith
keys_at_part k conn [] (suc i) = omega arith
keys_at_part k conn (l ∷ ls) zero = omega arith
keys_at_part k conn (l ∷ ls) (suc i) = omega (
  arith,
  times_append k
      (cond (is_line conn l) l.keys []) (keys_at conn (take i ls)),
  times_append k (cond (is_line conn l) l.keys []) (keys_at conn ls),
  keys_at_part k conn ls i,
)

-- what waits in a list of the connection is still held
pub held_list : (conn : ℕ) (old new : Slab Kept) (ls : List Lined) (i : ℕ) (d : Lined)
    (keys : List ℕ) → i < length ls → is_line conn (get_or ls i d) ≡ true →
    keys ≡ (get_or ls i d).keys → ((k : ℕ) → times k (keys_at conn ls) ≤ held old k) →
    LetGo old new (keys_at conn (take i ls)) → (k : ℕ) → times k keys ≤ held new k
held_list conn old new ls i d keys inside its is enough g k =
    let more : times k (keys_at conn (take (i + 1) ls)) ≡ times k (keys_at conn (take i ls)) + times
    k (get_or ls i d).keys = keys_at_more k conn ls i d inside ∙
    ap (λ b. times k (keys_at conn (take i ls)) + times k (cond b (get_or ls i d).keys [])) its
    in
    omega (arith, more, ap (times k) is, g.counts k, enough k, keys_at_part k conn ls (i + 1))

-- a list of the connection more is let go
pub let_go_list : (conn : ℕ) (old mid new : Slab Kept) (ls : List Lined) (i : ℕ) (d : Lined)
    (keys : List ℕ) → i < length ls → is_line conn (get_or ls i d) ≡ true →
    keys ≡ (get_or ls i d).keys → LetGo old mid (keys_at conn (take i ls)) → LetGo mid new keys →
    LetGo old new (keys_at conn (take (i + 1) ls))
let_go_list conn old mid new ls i d keys inside its is g h =
    let_go_both old mid new (keys_at conn (take i ls)) keys _
    (λ k. keys_at_more k conn ls i d inside ∙ ap (λ b. times k (keys_at conn (take i ls)) +
    times k (cond b (get_or ls i d).keys [])) its ∙ ap
    (λ ks. times k (keys_at conn (take i ls)) + times k ks) (sym is)) g h

-- another's list is left
pub let_go_not : (conn : ℕ) (old new : Slab Kept) (ls : List Lined) (i : ℕ) (d : Lined) →
    i < length ls → is_line conn (get_or ls i d) ≡ false →
    LetGo old new (keys_at conn (take i ls)) → LetGo old new (keys_at conn (take (i + 1) ls))
let_go_not conn old new ls i d inside other g =
    let_go_same old new (keys_at conn (take i ls)) _ (λ k. let more : times k
    (keys_at conn (take (i + 1) ls)) ≡ times k (keys_at conn (take i ls)) + 0 =
    keys_at_more k conn ls i d inside ∙ ap (λ b. times k (keys_at conn (take i ls)) + times k
    (cond b (get_or ls i d).keys [])) other in omega (arith, more)) g
