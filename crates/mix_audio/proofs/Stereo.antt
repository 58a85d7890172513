-- Samples that stand frame by frame are the tracks one after the other.
use Rattle.std.proofs.Common.{◌≡◌, ℕ, zero, suc, ◌<◌, ◌≤◌, ◌+◌, ◌*◌, List, [], ◌∷◌, ◌++◌, length}
use Rattle.std.proofs.Common.{get_or, take, drop, map, flat_map, refl, sym, ap, arith, ◌∙◌, ℤ, pos}
use Rattle.std.specs.List.{range_with_len}
use Rattle.std.proofs.lemmas.List.{get_or-take, get_or-drop, take-append-drop, length-drop}
use Rattle.std.proofs.lemmas.List.{length-take-le}

-- the same on both sides
abbrev pub twice : List ℤ → List ℤ
twice samples = flat_map (λ z. z ∷ (z ∷ [])) samples

-- past one frame
pub past_left : (a b : ℤ) (rest : List ℤ) (i j : ℕ) → j ≡ 2 * (i + 1) →
    get_or (a ∷ (b ∷ rest)) j (pos 0) ≡ get_or rest (2 * i) (pos 0)
past_left a b rest i j is = let next : j ≡ suc (suc (2 * i)) = omega (arith, is) in rw next refl

pub past_right : (a b : ℤ) (rest : List ℤ) (i j : ℕ) → j ≡ 2 * (i + 1) + 1 →
    get_or (a ∷ (b ∷ rest)) j (pos 0) ≡ get_or rest (2 * i + 1) (pos 0)
past_right a b rest i j is =
    let next : j ≡ suc (suc (2 * i + 1)) = omega (arith, is) in rw next refl

-- a track whose frames have these samples on both sides, counted from one on
pub track_framed : (f : ℕ → ℤ) (n low : ℕ) (xs : List ℤ) → length xs ≡ 2 * n →
    ((i : ℕ) → i < n → get_or xs (2 * i) (pos 0) ≡ f (low + i)) →
    ((i : ℕ) → i < n → get_or xs (2 * i + 1) (pos 0) ≡ f (low + i)) →
    xs ≡ twice (map f (range_with_len low n))
track_framed f zero low [] long left right = refl
track_framed f (suc n) low (a ∷ (b ∷ rest)) long left right =
    let start : low + 0 ≡ low = omega arith in
    let first : a ≡ f low = left 0 (omega arith) ∙ ap f start in
    let second : b ≡ f low = right 0 (omega arith) ∙ ap f start in
    let next : (i : ℕ) → low + (i + 1) ≡ low + 1 + i = λ i. omega arith in
    let others : rest ≡ twice (map f (range_with_len (low + 1) n)) =
    track_framed f n (low + 1) rest (omega (arith, long))
    (λ i below. sym (past_left a b rest i (2 * (i + 1)) refl)
    ∙ left (i + 1) (omega (arith, below)) ∙ ap f (next i))
    (λ i below. sym (past_right a b rest i (2 * (i + 1) + 1) refl)
    ∙ right (i + 1) (omega (arith, below)) ∙ ap f (next i)) in
    ap (λ z. z ∷ (b ∷ rest)) first ∙ ap (λ z. f low ∷ (z ∷ rest)) second
    ∙ ap (λ ys. f low ∷ (f low ∷ ys)) others
track_framed f n low xs long left right = absurd (omega (arith, long))

-- tracks whose frames have these samples on both sides, counted from one on
pub tracks_framed : (f : ℕ → ℕ → ℤ) (n k low : ℕ) (xs : List ℤ) → length xs ≡ 2 * (n * k) →
    ((t i : ℕ) → t < k → i < n → get_or xs (2 * (n * t + i)) (pos 0) ≡ f (low + t) i) →
    ((t i : ℕ) → t < k → i < n → get_or xs (2 * (n * t + i) + 1) (pos 0) ≡ f (low + t) i) →
    xs ≡ flat_map (λ t. twice (map (f t) (range_with_len 0 n))) (range_with_len low k)
tracks_framed f n zero low [] long left right = refl
tracks_framed f n zero low (x ∷ xs) long left right =
    let none : n * 0 ≡ 0 = grind arith in absurd (omega (arith, long, none))
tracks_framed f n (suc k) low xs long left right =
    let more : n * suc k ≡ n * k + n = grind arith in
    let none : n * 0 ≡ 0 = grind arith in
    let enough : 2 * n ≤ length xs = omega (arith, long, more) in
    let start : low + 0 ≡ low = omega arith in
    let first_place : (i : ℕ) → 2 * i ≡ 2 * (n * 0 + i) = λ i. omega (arith, none) in
    let later : (t : ℕ) → n * (t + 1) ≡ n * t + n = λ t. grind arith in
    let next : (t : ℕ) → low + (t + 1) ≡ low + 1 + t = λ t. omega arith in
    let here : take (2 * n) xs ≡ twice (map (f low) (range_with_len 0 n)) =
    track_framed (f low) n 0 (take (2 * n) xs) (length-take-le (2 * n) xs enough)
    (λ i below. let counted : i ≡ 0 + i = omega arith in
    get_or-take (2 * n) xs (2 * i) (pos 0) (omega (arith, below))
    ∙ ap (λ j. get_or xs j (pos 0)) (first_place i) ∙ left 0 i (omega arith) below
    ∙ ap (λ t. f t i) start ∙ ap (f low) counted)
    (λ i below. let counted : i ≡ 0 + i = omega arith in
    get_or-take (2 * n) xs (2 * i + 1) (pos 0) (omega (arith, below))
    ∙ ap (λ j. get_or xs (j + 1) (pos 0)) (first_place i) ∙ right 0 i (omega arith) below
    ∙ ap (λ t. f t i) start ∙ ap (f low) counted) in
    let rest : length (drop (2 * n) xs) ≡ 2 * (n * k) =
    length-drop (2 * n) xs ∙ omega (arith, long, more) in
    let others = tracks_framed f n k (low + 1) (drop (2 * n) xs) rest
    (λ t i up below. let place : 2 * n + 2 * (n * t + i) ≡ 2 * (n * (t + 1) + i) =
    omega (arith, later t) in
    get_or-drop (2 * n) xs (2 * (n * t + i)) (pos 0) ∙ ap (λ j. get_or xs j (pos 0)) place
    ∙ left (t + 1) i (omega (arith, up)) below ∙ ap (λ s. f s i) (next t))
    (λ t i up below. let place : 2 * n + (2 * (n * t + i) + 1) ≡ 2 * (n * (t + 1) + i) + 1 =
    omega (arith, later t) in
    get_or-drop (2 * n) xs (2 * (n * t + i) + 1) (pos 0) ∙ ap (λ j. get_or xs j (pos 0)) place
    ∙ right (t + 1) i (omega (arith, up)) below ∙ ap (λ s. f s i) (next t)) in
    sym (take-append-drop (2 * n) xs)
    ∙ ap (λ ys. ys ++ drop (2 * n) xs) here
    ∙ ap (λ ys. twice (map (f low) (range_with_len 0 n)) ++ ys) others
