-- What all of a list pass, what some do, and what a part of it does; sums over lists.
use Rattle.std.proofs.Common.{◌≡◌, Bool, true, false, cond, not, ◌&&◌, List, [], ◌∷◌, drop, filter}
use Rattle.std.proofs.Common.{refl, ap, sym, ◌∙◌, ◌++◌, find, Some, None, inl, inr, ℕ, zero, suc}
use Rattle.std.proofs.Common.{◌+◌, ◌≤◌, ◌==◌, map, length, arith, eqb-true, eq-eqb, nat_le, le-leb}
use Rattle.std.proofs.Common.{leb-true}
use Rattle.std.specs.List.{list_all, list_any, sum_by}
use Rattle.std.proofs.lemmas.Bool.{not-true, not_from_false, or_parts, or_from, both_ways}
use Rattle.std.proofs.lemmas.Bool.{true_from_ne_false}
use Rattle.std.proofs.lemmas.List.Folds.{list_any-append, fold-map, sum_by-zero}
use Rattle.mix_model.proofs.SetLemmas.{and_both, and_first, and_second, or_imply, found_passes}
use Rattle.mix_model.proofs.SetLemmas.{or_cases, all_imply}
use Rattle.mix_model.proofs.DistinctLemmas.{all_filter}
use Rattle.std.proofs.lemmas.List.Sums.{sum_by-cons}
use Rattle.std.proofs.lemmas.List.Filters.{sum_by-filter_both}
use Rattle.mix_model.specs.Sets.{has, is_distinct, greatest}
use Rattle.mix_model.specs.Ranks.{sum_of}

-- no element passes where all fail
pub none_all : {X : Type 0} (p : X → Bool) (xs : List X) → list_any p xs ≡ false →
    list_all (λ x. not (p x)) xs ≡ true
none_all p [] none = refl
none_all p (x ∷ xs) none =
    let both = or_parts (p x) (list_any p xs) none in
    and_both _ _ (not_from_false _ both.0) (none_all p xs both.1)

pub all_none : {X : Type 0} (p : X → Bool) (xs : List X) → list_all (λ x. not (p x)) xs ≡ true →
    list_any p xs ≡ false
all_none p [] all = refl
all_none p (x ∷ xs) all =
    or_from _ _ (not-true _ (and_first _ _ all)) (all_none p xs (and_second _ _ all))

-- what all pass of which none passes another test
pub all_unless : {X : Type 0} (p q t : X → Bool) →
    ((x : X) → t x ≡ false → p x ≡ true → q x ≡ true) → (xs : List X) → list_any t xs ≡ false →
    list_all p xs ≡ true → list_all q xs ≡ true
all_unless p q t imply [] none all = refl
all_unless p q t imply (x ∷ xs) none all =
    let both = or_parts (t x) (list_any t xs) none in
    and_both _ _ (imply x both.0 (and_first _ _ all))
    (all_unless p q t imply xs both.1 (and_second _ _ all))

-- both tests at once
pub all_both : {X : Type 0} (p q : X → Bool) (xs : List X) → list_all p xs ≡ true →
    list_all q xs ≡ true → list_all (λ x. p x && q x) xs ≡ true
all_both p q [] first second = refl
all_both p q (x ∷ xs) first second =
    and_both _ _ (and_both (p x) (q x) (and_first _ _ first) (and_first _ _ second))
    (all_both p q xs (and_second _ _ first) (and_second _ _ second))

-- what some of a part pass, some of all pass
pub any_kept : {X : Type 0} (t p : X → Bool) (xs : List X) → list_any t (filter p xs) ≡ true →
    list_any t xs ≡ true
any_kept t p xs some = true_from_ne_false _ (λ none. both_ways _
    (all_none t (filter p xs) (all_filter (λ x. not (t x)) p xs (none_all t xs none))) some)

-- what some pass where one test implies another
pub any_imply : {X : Type 0} (p q : X → Bool) → ((x : X) → p x ≡ true → q x ≡ true) →
    (xs : List X) → list_any p xs ≡ true → list_any q xs ≡ true
any_imply p q imply [] some = some
any_imply p q imply (x ∷ xs) some =
    or_imply _ _ _ _ (imply x) (any_imply p q imply xs) some

-- what one more element passes, or those that were there
pub any_last : {X : Type 0} (p : X → Bool) (xs : List X) (x : X) (P : Type 0) →
    (list_any p xs ≡ true → P) → (p x ≡ true → P) → list_any p (xs ++ x ∷ []) ≡ true → P
any_last p xs x P old new some =
    elim (or_cases _ _ (sym (list_any-append p xs (x ∷ [])) ∙ some)) [
      | inl before ↦ old before
      | inr last ↦ elim (or_cases (p x) false last) [ inl here ↦ new here | inr none ↦ cc ]
    ]

-- some pass where one that a look-up finds passes
pub found_any : {X : Type 0} (p q : X → Bool) (xs : List X) (x : X) → find p xs ≡ Some x →
    q x ≡ true → list_any q xs ≡ true
found_any p q xs x found passes = true_from_ne_false _ (λ none. both_ways _
    (not-true _ (found_passes p (λ y. not (q y)) xs x found (none_all q xs none)).1) passes)

pub none_dropped : {X : Type 0} (p : X → Bool) (xs : List X) → list_any p xs ≡ false →
    list_any p (drop 1 xs) ≡ false
none_dropped p [] none = refl
none_dropped p (x ∷ xs) none = (or_parts (p x) (list_any p xs) none).1

-- two filters, one after the other
pub filter_both : {X : Type 0} (p q : X → Bool) (xs : List X) →
    filter p (filter q xs) ≡ filter (λ x. q x && p x) xs
filter_both p q [] = refl
filter_both {X} p q (x ∷ xs) = here (q x) (filter_both p q xs)
  where
    here : (b : Bool) → filter p (filter q xs) ≡ filter (λ y. q y && p y) xs →
        filter p (cond b (x ∷ filter q xs) (filter q xs))
        ≡ cond (b && p x) (x ∷ filter (λ y. q y && p y) xs) (filter (λ y. q y && p y) xs)
    here true rest = ap (λ ys. cond (p x) (x ∷ ys) ys) rest
    here false rest = rest

-- a filter whose test all pass
pub filter_all : {X : Type 0} (p : X → Bool) (xs : List X) → list_all p xs ≡ true →
    filter p xs ≡ xs
filter_all p [] all = refl
filter_all {X} p (x ∷ xs) all = rw (and_first (p x) (list_all p xs) all)
    (ap (λ (ys : List X). x ∷ ys) (filter_all p xs (and_second _ _ all)))

-- what a look-up that finds nothing looked for
pub found_none : {X : Type 0} (p : X → Bool) (xs : List X) → find p xs ≡ None →
    list_all (λ x. not (p x)) xs ≡ true
found_none p [] none = refl
found_none {X} p (x ∷ xs) none = here (p x) (found_none p xs) none
  where
    here : (b : Bool) → (find p xs ≡ None → list_all (λ y. not (p y)) xs ≡ true) →
        cond b (Some x) (find p xs) ≡ None → (not b && list_all (λ y. not (p y)) xs) ≡ true
    here true rest none = cc
    here false rest none = rest none

-- 1 where a test is passed
abbrev pub one_if : Bool → ℕ
one_if true = 1
one_if false = 0

none_if : (b : Bool) → b ≡ true → (one_if (not b) == 0) ≡ true
none_if true h = refl
none_if false h = cc

if_none : (b : Bool) → (one_if (not b) == 0) ≡ true → b ≡ true
if_none true h = refl
if_none false h = cc

-- all pass a test exactly where the sum of those that fail is 0
pub all_sum : {X : Type 0} (p : X → Bool) (xs : List X) → list_all p xs ≡ true →
    sum_by (λ x. one_if (not (p x))) xs ≡ 0
all_sum {X} p xs all = eqb-true _ 0 (sum_by-zero (λ (x : X). one_if (not (p x))) xs
    ∙ all_imply p (λ x. one_if (not (p x)) == 0) (λ x. none_if (p x)) xs all)

pub sum_all : {X : Type 0} (p : X → Bool) (xs : List X) → sum_by (λ x. one_if (not (p x))) xs ≡ 0 →
    list_all p xs ≡ true
sum_all {X} p xs none = all_imply (λ x. one_if (not (p x)) == 0) p (λ x. if_none (p x)) xs
    (sym (sum_by-zero (λ (x : X). one_if (not (p x))) xs) ∙ eq-eqb _ 0 none)

-- a sum over changed elements
pub sum_map : {X Y : Type 0} (f : Y → ℕ) (h : X → Y) (xs : List X) →
    sum_by f (map h xs) ≡ sum_by (λ x. f (h x)) xs
sum_map f h xs = fold-map (λ a y. a + f y) h 0 xs

-- what is no greater for each is no greater for all together
pub sum_less : {X : Type 0} (f k : X → ℕ) → ((x : X) → f x ≤ k x) → (xs : List X) →
    sum_by f xs ≤ sum_by k xs
sum_less f k less [] = omega arith
sum_less f k less (x ∷ xs) =
    omega (arith, sum_by-cons f x xs, sum_by-cons k x xs, less x, sum_less f k less xs)

-- a part of a list has no greater sum
pub sum_part : {X : Type 0} (f : X → ℕ) (p : X → Bool) (xs : List X) →
    sum_by f (filter p xs) ≤ sum_by f xs
sum_part {X} f p xs = omega (arith, sum_by-filter_both p (λ (x : X). not (p x)) (λ x. refl) f xs)

pub length_sum : {X : Type 0} (xs : List X) → sum_by (λ x. 1) xs ≡ length xs
length_sum [] = refl
length_sum {X} (x ∷ xs) = omega (arith, sum_by-cons (λ (y : X). 1) x xs, length_sum xs)

pub sum_of_is : {X : Type 0} (f : ℕ → ℕ) (c : X → ℕ) (xs : List X) →
    sum_of (map f (map c xs)) ≡ sum_by (λ x. f (c x)) xs
sum_of_is f c [] = refl
sum_of_is {X} f c (x ∷ xs) =
    omega (arith, sum_by-cons (λ (y : X). f (c y)) x xs, sum_of_is f c xs)

-- the greatest is at most a number where each is
pub greatest_all : {X : Type 0} (k : X → ℕ) (m : ℕ) (xs : List X) → greatest (map k xs) ≤ m →
    list_all (λ x. nat_le (k x) m) xs ≡ true
greatest_all k m [] most = refl
greatest_all k m (x ∷ xs) most = and_both _ _ (le-leb (k x) m (omega (arith, most)))
    (greatest_all k m xs (omega (arith, most)))

pub all_greatest : {X : Type 0} (f k : X → ℕ) (m : ℕ) → ((x : X) → f x ≤ k x) → (xs : List X) →
    list_all (λ x. nat_le (k x) m) xs ≡ true → greatest (map f xs) ≤ m
all_greatest f k m less [] all = omega arith
all_greatest f k m less (x ∷ xs) all =
    let here : k x ≤ m = leb-true (k x) m (and_first _ _ all) in
    let rest : greatest (map f xs) ≤ m = all_greatest f k m less xs (and_second _ _ all) in
    omega (arith, here, rest, less x)

-- how often a number is in a list
abbrev pub times : ℕ → List ℕ → ℕ
times x xs = sum_by (λ y. one_if (y == x)) xs

pub times_cons : (x y : ℕ) (xs : List ℕ) → times x (y ∷ xs) ≡ one_if (y == x) + times x xs
times_cons x y xs = sum_by-cons (λ z. one_if (z == x)) y xs

none_one : (b : Bool) → b ≡ false → one_if b ≡ 0
none_one true h = cc
none_one false h = refl

one_none : (b : Bool) → one_if b ≡ 0 → b ≡ false
one_none true h = absurd (omega (arith, h))
one_none false h = refl

pub absent_times : (x : ℕ) (xs : List ℕ) → has x xs ≡ false → times x xs ≡ 0
absent_times x [] none = refl
absent_times x (y ∷ xs) none =
    let both = or_parts (y == x) (has x xs) none in
    omega (arith, times_cons x y xs, none_one (y == x) both.0, absent_times x xs both.1)

pub times_absent : (x : ℕ) (xs : List ℕ) → times x xs ≡ 0 → has x xs ≡ false
times_absent x [] none = refl
times_absent x (y ∷ xs) none =
    let whole : one_if (y == x) + times x xs ≡ 0 = sym (times_cons x y xs) ∙ none in
    or_from _ _ (one_none (y == x) (omega (arith, whole)))
    (times_absent x xs (omega (arith, whole)))

pub times_present : (x : ℕ) (xs : List ℕ) → has x xs ≡ true → 1 ≤ times x xs
times_present x xs here = case_times (times x xs) refl
  where
    case_times : (n : ℕ) → times x xs ≡ n → 1 ≤ n
    case_times zero none = absurd (both_ways _ (times_absent x xs none) here)
    case_times (suc n) some = omega arith

at_most_one : (b : Bool) (n : ℕ) → (b ≡ true → n ≡ 0) → n ≤ 1 → one_if b + n ≤ 1
at_most_one true n none few = omega (arith, none refl)
at_most_one false n none few = omega (arith, few)

-- no number is twice exactly where each is at most once
pub distinct_times : (xs : List ℕ) → is_distinct xs ≡ true → (x : ℕ) → times x xs ≤ 1
distinct_times [] d x = omega arith
distinct_times (y ∷ xs) d x =
    let few : one_if (y == x) + times x xs ≤ 1 =
    at_most_one (y == x) (times x xs)
    (λ same. absent_times x xs (ap (λ z. has z xs) (sym (eqb-true y x same))
    ∙ not-true _ (and_first _ _ d))) (distinct_times xs (and_second _ _ d) x) in
    omega (arith, times_cons x y xs, few)

pub times_distinct : (xs : List ℕ) → ((x : ℕ) → times x xs ≤ 1) → is_distinct xs ≡ true
times_distinct [] each = refl
times_distinct (y ∷ xs) each =
    let own : one_if (y == y) ≡ 1 = ap (λ b. one_if b) (eq-eqb y y refl) in
    let gone : times y xs ≡ 0 = omega (arith, each y, times_cons y y xs, own) in
    and_both _ _ (ap not (times_absent y xs gone))
    (times_distinct xs (λ x. omega (arith, each x, times_cons x y xs)))
