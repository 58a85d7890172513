use Rattle.std.proofs.Common.{◌≡◌, ℕ, ◌+◌, ◌<◌, ◌≤◌, zero, suc, List, [], ◌∷◌, ◌++◌, length, map}
use Rattle.std.proofs.Common.{take, drop, get_or, refl, sym, ap, ◌∙◌, arith, Bool, true, false}
use Rattle.std.proofs.Common.{cond, filter}
use Rattle.std.proofs.Math.ListN.{set}
use Rattle.std.specs.Vec.{with_items}
use Rattle.std.specs.declared.vec.Vec.{Vec}
use Rattle.std.proofs.lemmas.List.{with_items_is, length-map}
use Rattle.std.proofs.lemmas.List.Edits.{map_over_more}
use Rattle.std.proofs.lemmas.List.{get_or_default}
use Rattle.mix_fanout.specs.Keys.{Lined, HasRoom, with_room}

-- one more element of a map in place
pub mapped_more : {X : Type 0} (f : X → X) (xs ys : List X) (i : ℕ) (d y : X) → i < length xs →
    i < length ys → ys ≡ map f (take i xs) ++ drop i xs → y ≡ f (get_or ys i d) →
    set ys i y ≡ map f (take (i + 1) xs) ++ drop (i + 1) xs
mapped_more f xs ys i d y inside here e is = ap (set ys i) is ∙
    map_over_more f xs ys i (get_or ys i d) inside e (get_or_default ys i d _ here)

-- a map in place over a vector
pub in_place : {Z : Type 0} (v : Vec Lined Z) (f : Lined → Lined) (ws xs : List Lined) →
    ws ≡ map f xs → xs ≡ v.items → (with_items v ws).items ≡ map f v.items
in_place v f ws xs made whole = with_items_is v ws (ap length made ∙ length-map xs f ∙
    ap length whole ∙ sym v.ok.0) ∙ made ∙ ap (map f) whole

-- an element that isn't reached yet has the room that it had
room_here : (f : Lined → Lined) (room : ℕ) (xs : List Lined) (i : ℕ) (d : Lined) → HasRoom room xs →
    i < length xs → room ≤ (get_or (map f (take i xs) ++ drop i xs) i d).room
room_here f room [] i d has inside = absurd (omega arith)
room_here f room (x ∷ xs) zero d has inside = has.0
room_here f room (x ∷ xs) (suc i) d has inside = room_here f room xs i d has.1 (omega arith)

-- the same at the place that the loop has come to
pub room_at : (f : Lined → Lined) (room : ℕ) (xs ys : List Lined) (i : ℕ) (d : Lined) →
    HasRoom room xs → i < length xs → ys ≡ map f (take i xs) ++ drop i xs →
    room ≤ (get_or ys i d).room
room_at f room xs ys i d has inside e = rw e (room_here f room xs i d has inside)

-- an element put back in its place
set_same : {X : Type 0} (xs : List X) (i : ℕ) (d : X) → i < length xs →
    set xs i (get_or xs i d) ≡ xs
set_same [] i d h = refl
set_same (x ∷ xs) zero d h = refl
set_same (x ∷ xs) (suc i) d h = ap (λ l. x ∷ l) (set_same xs i d (omega arith))

-- an element that is put back as it was leaves all as it was
pub put_back : {X : Type 0} (xs ys : List X) (i : ℕ) (d y : X) → i < length ys → ys ≡ xs →
    y ≡ get_or ys i d → set ys i y ≡ xs
put_back xs ys i d y here e is = ap (set ys i) is ∙ set_same ys i d here ∙ e

-- room aside, the lists are the same, however far room was made
pub same_but_room : (room : ℕ) (xs : List Lined) (i : ℕ) →
    map (with_room 0) (map (with_room room) (take i xs) ++ drop i xs) ≡ map (with_room 0) xs
same_but_room room [] zero = refl
same_but_room room [] (suc i) = refl
same_but_room room (x ∷ xs) zero = refl
same_but_room room (x ∷ xs) (suc i) = ap (λ l. with_room 0 x ∷ l) (same_but_room room xs i)

-- no room is lost, however far room was made
pub room_so_far : (room n : ℕ) (xs : List Lined) (i : ℕ) → n ≤ room → HasRoom n xs →
    HasRoom n (map (with_room room) (take i xs) ++ drop i xs)
room_so_far room n [] zero le has = tt
room_so_far room n [] (suc i) le has = tt
room_so_far room n (x ∷ xs) zero le has = has
room_so_far room n (x ∷ xs) (suc i) le has = (le, room_so_far room n xs i le has.1)

-- where room was made for all, each has it
pub room_made : (room : ℕ) (xs : List Lined) → HasRoom room (map (with_room room) xs)
room_made room [] = tt
room_made room (x ∷ xs) = (omega arith, room_made room xs)

-- who has room for more has room for less
pub room_less : (n k : ℕ) (ls : List Lined) → k ≤ n → HasRoom n ls → HasRoom k ls
room_less n k [] le has = tt
room_less n k (l ∷ ls) le has = (omega (arith, has.0), room_less n k ls le has.1)

-- a map that keeps room keeps it in all
pub room_mapped : (f : Lined → Lined) (n k : ℕ) (ls : List Lined) →
    ((l : Lined) → n ≤ l.room → k ≤ (f l).room) → HasRoom n ls → HasRoom k (map f ls)
room_mapped f n k [] keeps has = tt
room_mapped f n k (l ∷ ls) keeps has = (keeps l has.0, room_mapped f n k ls keeps has.1)

-- who stays keeps the room
pub room_filtered : (n : ℕ) (p : Lined → Bool) (ls : List Lined) → HasRoom n ls →
    HasRoom n (filter p ls)
room_filtered n p [] has = tt
room_filtered n p (l ∷ ls) has = elim (p l) as (λ b. HasRoom n
    (cond b (l ∷ filter p ls) (filter p ls))) [
      | true ↦ (has.0, room_filtered n p ls has.1)
      | false ↦
          room_filtered n p ls has.1
    ]

-- one more with the room
pub room_joined : (n : ℕ) (l : Lined) (ls : List Lined) → n ≤ l.room → HasRoom n ls →
    HasRoom n (ls ++ l ∷ [])
room_joined n l [] here has = (here, tt)
room_joined n l (x ∷ ls) here has = (has.0, room_joined n l ls here has.1)

-- an element that isn't reached yet is as it was
pub not_reached : {X : Type 0} (f : X → X) (xs : List X) (i : ℕ) (d : X) → i < length xs →
    get_or (map f (take i xs) ++ drop i xs) i d ≡ get_or xs i d
not_reached f [] i d inside = absurd (omega arith)
not_reached f (x ∷ xs) zero d inside = refl
not_reached f (x ∷ xs) (suc i) d inside = not_reached f xs i d (omega arith)
