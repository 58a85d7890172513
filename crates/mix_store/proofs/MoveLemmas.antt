-- An item that is raised to the top, and the items so far.
use Rattle.std.proofs.Common.{◌≡◌, ℕ, ◌+◌, ◌<◌, ◌≤◌, Bool, true, false, not, List, [], ◌∷◌, ◌++◌}
use Rattle.std.proofs.Common.{length, get_or, take, drop, filter, refl, ap, sym, ◌∙◌, arith}
use Rattle.std.proofs.Common.{append_assoc, length-append, length-take-le, get_or-drop}
use Rattle.std.specs.Prelude.{remove}
use Rattle.std.proofs.lemmas.List.{drop_more, take_more, drop_all, take_all, append-nil, get_or_at}
use Rattle.std.proofs.lemmas.List.{length-drop}
use Rattle.std.proofs.lemmas.List.Elements.{filter-append}
use Rattle.std.proofs.lemmas.List.Edits.{length-remove}

removed : {X : Type 0} (below : List X) (x : X) (above : List X) →
    remove (below ++ x ∷ above) (length below) ≡ below ++ above
removed [] x above = refl
removed {X} (y ∷ below) x above = ap (λ (ys : List X). y ∷ ys) (removed below x above)

-- an item that is raised lies on top of all
raised : {X : Type 0} (below rest top : List X) (x d : X) (at : ℕ) → length below ≡ at →
    remove (below ++ (x ∷ rest ++ top)) at ++ get_or (below ++ (x ∷ rest ++ top)) at d ∷ []
    ≡ below ++ (rest ++ (top ++ x ∷ []))
raised below rest top x d at count =
    let there : get_or (below ++ (x ∷ rest ++ top)) at d ≡ x =
    get_or_at below x (rest ++ top) d at count in
    let gone : remove (below ++ (x ∷ rest ++ top)) at ≡ below ++ (rest ++ top) =
    rw (← count) (removed below x (rest ++ top)) in
    rw (there, gone) (append_assoc below (rest ++ top) (x ∷ [])
    ∙ ap (λ ys. below ++ ys) (append_assoc rest top (x ∷ [])))

-- of so many items those that fail the test, then the items that are left, then those that pass it
abbrev pub parted : {X : Type 0} → (X → Bool) → List X → ℕ → List X
parted p xs n = filter (λ x. not (p x)) (take n xs) ++ (drop n xs ++ filter p (take n xs))

-- how many fail it
abbrev pub failed : {X : Type 0} → (X → Bool) → List X → ℕ → ℕ
failed p xs n = length (filter (λ x. not (p x)) (take n xs))

-- the next item is at its place
pub next_parted : {X : Type 0} (p : X → Bool) (xs items : List X) (n : ℕ) (d : X) →
    n < length xs → items ≡ parted p xs n → get_or items (failed p xs n) d ≡ get_or xs n d
next_parted p xs items n d below so_far =
    rw (so_far, drop_more xs n d below)
    (get_or_at (filter (λ x. not (p x)) (take n xs)) (get_or xs n d)
    (drop (n + 1) xs ++ filter p (take n xs)) d (failed p xs n) refl)

last_passed : {X : Type 0} (p : X → Bool) (xs : List X) (x : X) → p x ≡ true →
    filter p (xs ++ x ∷ []) ≡ filter p xs ++ x ∷ []
last_passed p xs x passed = filter-append p xs (x ∷ []) ∙ rw passed refl

last_failed : {X : Type 0} (p : X → Bool) (xs : List X) (x : X) → p x ≡ false →
    filter p (xs ++ x ∷ []) ≡ filter p xs
last_failed p xs x other = filter-append p xs (x ∷ []) ∙ rw other (append-nil (filter p xs))

-- an item that passes the test is raised
pub part_raised : {X : Type 0} (p : X → Bool) (xs items after : List X) (n at : ℕ) (d : X) →
    n < length xs → items ≡ parted p xs n → at ≡ failed p xs n → p (get_or xs n d) ≡ true →
    after ≡ remove items at ++ get_or items at d ∷ [] → after ≡ parted p xs (n + 1)
part_raised p xs items after n at d below so_far count passed moved =
    let now = raised (filter (λ x. not (p x)) (take n xs)) (drop (n + 1) xs)
    (filter p (take n xs)) (get_or xs n d) d at (sym count) in
    let others = last_failed (λ x. not (p x)) (take n xs) (get_or xs n d) (ap not passed) in
    let those = last_passed p (take n xs) (get_or xs n d) passed in
    moved ∙ rw (so_far, drop_more xs n d below, take_more xs n d below, others, those) now

pub count_raised : {X : Type 0} (p : X → Bool) (xs : List X) (n at : ℕ) (d : X) →
    n < length xs → at ≡ failed p xs n → p (get_or xs n d) ≡ true → at ≡ failed p xs (n + 1)
count_raised p xs n at d below count passed =
    let others = last_failed (λ x. not (p x)) (take n xs) (get_or xs n d) (ap not passed) in
    rw (take_more xs n d below, others) count

-- an item that fails it stays
pub part_stays : {X : Type 0} (p : X → Bool) (xs items : List X) (n : ℕ) (d : X) →
    n < length xs → items ≡ parted p xs n → p (get_or xs n d) ≡ false →
    items ≡ parted p xs (n + 1)
part_stays p xs items n d below so_far other =
    let others = last_passed (λ x. not (p x)) (take n xs) (get_or xs n d) (ap not other) in
    let those = last_failed p (take n xs) (get_or xs n d) other in
    so_far ∙ rw (drop_more xs n d below, take_more xs n d below, others, those)
    (sym (append_assoc (filter (λ x. not (p x)) (take n xs)) (get_or xs n d ∷ [])
    (drop (n + 1) xs ++ filter p (take n xs))))

pub count_stays : {X : Type 0} (p : X → Bool) (xs : List X) (n at : ℕ) (d : X) →
    n < length xs → at ≡ failed p xs n → p (get_or xs n d) ≡ false →
    at + 1 ≡ failed p xs (n + 1)
count_stays p xs n at d below count other =
    let others = last_passed (λ x. not (p x)) (take n xs) (get_or xs n d) (ap not other) in
    rw (take_more xs n d below, others, count)
    (sym (length-append (filter (λ x. not (p x)) (take n xs)) (get_or xs n d ∷ [])))

-- items that are raised one by one from one place
abbrev pub turned : {X : Type 0} → List X → ℕ → ℕ → List X
turned xs at n = take at xs ++ (drop (at + n) xs ++ take n (drop at xs))

pub turned_more : {X : Type 0} (xs items after : List X) (at n : ℕ) (d : X) →
    at + n < length xs → items ≡ turned xs at n →
    after ≡ remove items at ++ get_or items at d ∷ [] → after ≡ turned xs at (n + 1)
turned_more xs items after at n d below so_far moved =
    let within : n < length (drop at xs) = omega (arith, length-drop at xs, below) in
    let count : length (take at xs) ≡ at = length-take-le at xs (omega (arith, below)) in
    let next : at + n + 1 ≡ at + (n + 1) = omega arith in
    let same : get_or (drop at xs) n d ≡ get_or xs (at + n) d = get_or-drop at xs n d in
    let now = raised (take at xs) (drop (at + n + 1) xs) (take n (drop at xs))
    (get_or xs (at + n) d) d at count in
    moved ∙ rw (so_far, drop_more xs (at + n) d below)
    (now ∙ rw (take_more (drop at xs) n d within, same, next) refl)

-- all items are parted
pub all_failed : {X : Type 0} (p : X → Bool) (xs : List X) (n : ℕ) → length xs ≤ n →
    failed p xs n ≡ length (filter (λ x. not (p x)) xs)
all_failed p xs n done = rw (take_all n xs done) refl

pub all_parted : {X : Type 0} (p : X → Bool) (xs : List X) (n : ℕ) → length xs ≤ n →
    parted p xs n ≡ filter (λ x. not (p x)) xs ++ filter p xs
all_parted p xs n done = rw (take_all n xs done, drop_all n xs done) refl

-- as many items
pub same_parted : {X : Type 0} (items : List X) (at : ℕ) (d : X) → at < length items →
    length (remove items at ++ get_or items at d ∷ []) ≡ length items
same_parted items at d below =
    let less : length (remove items at) + 1 ≡ length items = length-remove items at below in
    omega (arith, less, length-append (remove items at) (get_or items at d ∷ []))

-- the same, whatever stands past the last item
pub raised_more : {X : Type 0} (xs items after : List X) (at n : ℕ) → at + n < length xs →
    items ≡ turned xs at n → ((d : X) → after ≡ remove items at ++ get_or items at d ∷ []) →
    after ≡ turned xs at (n + 1)
raised_more [] items after at n below so_far moved = absurd (omega (arith, below))
raised_more (x ∷ xs) items after at n below so_far moved =
    turned_more (x ∷ xs) items after at n x below so_far (moved x)

pub raised_count : {X : Type 0} (items after : List X) (at : ℕ) → at < length items →
    ((d : X) → after ≡ remove items at ++ get_or items at d ∷ []) → length after ≡ length items
raised_count [] after at below moved = absurd (omega (arith, below))
raised_count (x ∷ items) after at below moved =
    ap length (moved x) ∙ same_parted (x ∷ items) at x below
