-- Lists in which no number is twice.
use Rattle.std.proofs.Common.{◌≡◌, ℕ, ◌<◌, ◌==◌, Bool, true, false, ◌&&◌, ◌||◌, not, cond, List, []}
use Rattle.std.proofs.Common.{◌∷◌, ◌++◌, filter, refl, sym, ap, arith, eqb-true, eq-eqb, ltb-true}
use Rattle.std.proofs.Common.{ne_eqb, ◌∙◌, find, is_some, Option, Some}
use Rattle.std.proofs.Common.{inl, inr}
use Rattle.std.specs.List.{list_all}
use Rattle.std.proofs.lemmas.List.Folds.{list_any-append}
use Rattle.mix_model.specs.declared.row.Row.{Row}
use Rattle.mix_model.specs.Sets.{has, is_distinct, rises_above}
use Rattle.mix_model.specs.Rows.{is_at, serials_of}
use Rattle.mix_model.specs.Lookups.{has_row}
use Rattle.mix_model.proofs.SetLemmas.{and_both, and_first, and_second, or_cases}
use Rattle.mix_model.proofs.DyingLemmas.{has_filter, all_members}

-- what a number is not in
not_case : (b : Bool) → not b ≡ true → b ≡ false
not_case true h = cc
not_case false h = refl

neither : (a b : Bool) → a ≡ false → b ≡ false → not (a || b) ≡ true
neither false false first second = refl
neither true b first second = cc
neither false true first second = cc

or_none : (a b : Bool) → (a || b) ≡ false → (a ≡ false) × (not b ≡ true)
or_none true b h = cc
or_none false true h = cc
or_none false false h = (refl, refl)

none_and : (b : Bool) → (b && false) ≡ false
none_and true = refl
none_and false = refl

other_way : (x y : ℕ) → (x == y) ≡ false → (y == x) ≡ false
other_way x y apart = ne_eqb y x (λ same.
    let is : (x == y) ≡ true = eq-eqb x y (sym same) in
    let never : true ≡ false = sym is ∙ apart in cc)

-- numbers that are neither x nor in xs
none_of : (x : ℕ) (xs ys : List ℕ) → list_all (λ y. not (has y (x ∷ xs))) ys ≡ true →
    (has x ys ≡ false) × (list_all (λ y. not (has y xs)) ys ≡ true)
none_of x xs [] all = (refl, refl)
none_of x xs (y ∷ ys) all =
    let rest = none_of x xs ys (and_second _ _ all) in
    let out = or_none (x == y) (has y xs) (not_case _ (and_first _ _ all)) in
    (rw (other_way x y out.0) rest.0, and_both _ _ out.1 rest.1)

-- two such lists without a common number are one
pub distinct_append : (xs ys : List ℕ) → is_distinct xs ≡ true → is_distinct ys ≡ true →
    list_all (λ y. not (has y xs)) ys ≡ true → is_distinct (xs ++ ys) ≡ true
distinct_append [] ys first second apart = second
distinct_append (x ∷ xs) ys first second apart =
    let none = none_of x xs ys apart in
    and_both _ _
    (ap not (list_any-append (λ y. y == x) xs ys)
    ∙ neither (has x xs) (has x ys) (not_case _ (and_first _ _ first)) none.0)
    (distinct_append xs ys (and_second _ _ first) second none.1)

-- and so is a part of one
distinct_head : (b : Bool) (x : ℕ) (kept : List ℕ) → has x kept ≡ false →
    is_distinct kept ≡ true → is_distinct (cond b (x ∷ kept) kept) ≡ true
distinct_head true x kept gone rest = and_both _ _ (ap not gone) rest
distinct_head false x kept gone rest = rest

pub distinct_filter : (p : ℕ → Bool) (xs : List ℕ) → is_distinct xs ≡ true →
    is_distinct (filter p xs) ≡ true
distinct_filter p [] h = refl
distinct_filter p (x ∷ xs) h =
    let gone : has x (filter p xs) ≡ false = has_filter p x xs
    ∙ ap (λ b. p x && b) (not_case _ (and_first _ _ h)) ∙ none_and (p x) in
    distinct_head (p x) x (filter p xs) gone (distinct_filter p xs (and_second _ _ h))

-- a list that rises above a number has neither that number nor a lower one
rises_past : (m x : ℕ) (xs : List ℕ) → rises_above m xs ≡ true → has x xs ≡ true → m < x
rises_past m x [] rises here = cc
rises_past m x (y ∷ xs) rises here =
    let above : m < y = ltb-true m y (and_first _ _ rises) in
    elim (or_cases _ _ here) [
      | inl same ↦ let is : y ≡ x = eqb-true y x same in omega (arith, above, is)
      | inr later ↦ omega (arith, above, rises_past y x xs (and_second _ _ rises) later)
    ]

pub rises_distinct : (m : ℕ) (xs : List ℕ) → rises_above m xs ≡ true → is_distinct xs ≡ true
rises_distinct m [] rises = refl
rises_distinct m (x ∷ xs) rises =
    and_both _ _ (absent (has x xs) refl) (rises_distinct x xs (and_second _ _ rises))
  where
    absent : (b : Bool) → has x xs ≡ b → not b ≡ true
    absent true here =
        absurd (omega (arith, rises_past x x xs (and_second _ _ rises) here))
    absent false here = refl

-- a row is there exactly where its serial is in the list of them
listed_head : (b : Bool) (r : Row) (o : Option Row) (there : Bool) → is_some o ≡ there →
    is_some (cond b (Some r) o) ≡ (b || there)
listed_head true r o there same = refl
listed_head false r o there same = same

pub row_is_listed : (rows : List Row) (x : ℕ) → has_row rows x ≡ has x (serials_of rows)
row_is_listed [] x = refl
row_is_listed (r ∷ rows) x =
    listed_head (r.serial == x) r (find (is_at x) rows) (has x (serials_of rows))
    (row_is_listed rows x)

pub serials_there : (rows : List Row) → list_all (has_row rows) (serials_of rows) ≡ true
serials_there rows =
    all_members (has_row rows) (serials_of rows) (λ x here. row_is_listed rows x ∙ here)

-- what all pass, all of a part pass
passed_head : {X : Type 0} (q : X → Bool) (b : Bool) (x : X) (kept : List X) →
    (b ≡ true → q x ≡ true) → list_all q kept ≡ true → list_all q (cond b (x ∷ kept) kept) ≡ true
passed_head q true x kept here rest = and_both _ _ (here refl) rest
passed_head q false x kept here rest = rest

pub all_filter : {X : Type 0} (q p : X → Bool) (xs : List X) → list_all q xs ≡ true →
    list_all q (filter p xs) ≡ true
all_filter q p [] all = refl
all_filter q p (x ∷ xs) all = passed_head q (p x) x (filter p xs) (λ here. and_first _ _ all)
    (all_filter q p xs (and_second _ _ all))

-- what each of a part passed
pub filter_passes : {X : Type 0} (p : X → Bool) (xs : List X) → list_all p (filter p xs) ≡ true
filter_passes p [] = refl
filter_passes p (x ∷ xs) = passed_head p (p x) x (filter p xs) (λ here. here) (filter_passes p xs)
