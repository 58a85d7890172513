-- What is found among elements whose keys rise: by its place, and by a search that halves them.
use Rattle.std.proofs.Common.{◌≡◌, ◌≢◌, ℕ, zero, suc, ◌<◌, ◌≤◌, ◌==◌, true, false, List, [], ◌∷◌}
use Rattle.std.proofs.Common.{length, map, get_or, find, Some, None, Ok, Err, refl, ap}
use Rattle.std.proofs.Common.{sym, arith, inl, inr}
use Rattle.std.specs.List.Sorted.{IsSearchInRange, IsBinarySearchResult, IsNonDecreasingBy}
use Rattle.std.specs.Ordering.{nat_cmp, ordering_index}
use Rattle.std.proofs.lemmas.Cmp.{ranked}
use Rattle.std.proofs.lemmas.List.Sorted.{IsNonDecreasingBy-from_default}
use Rattle.std.proofs.lemmas.Bool.{cases_lt, ltb-true, eq-eqb, ne_eqb}
use Rattle.std.proofs.lemmas.Bool.Decides.{nat_tests}
use Rattle.mix_model.specs.Sets.{rises_above}
use Rattle.mix_model.proofs.SetLemmas.{and_first, and_second}

-- keys are above the least
pub key_above : {X : Type 0} (key : X → ℕ) (d : X) (least : ℕ) (xs : List X) →
    rises_above least (map key xs) ≡ true → (j : ℕ) → j < length xs → least < key (get_or xs j d)
key_above key d least [] rise j within = absurd (omega (arith, within))
key_above key d least (x ∷ xs) rise zero within = ltb-true least (key x) (and_first _ _ rise)
key_above key d least (x ∷ xs) rise (suc j) within =
    let first : least < key x = ltb-true least (key x) (and_first _ _ rise) in
    let rest : key x < key (get_or xs j d) =
    key_above key d (key x) xs (and_second _ _ rise) j (omega (arith, within)) in
    omega (arith, first, rest)

-- and above those before them
keys_rise : {X : Type 0} (key : X → ℕ) (d : X) (least : ℕ) (xs : List X) →
    rises_above least (map key xs) ≡ true → (i j : ℕ) → i < j → j < length xs →
    key (get_or xs i d) < key (get_or xs j d)
keys_rise key d least [] rise i j before within = absurd (omega (arith, within))
keys_rise key d least (x ∷ xs) rise i zero before within = absurd (omega (arith, before))
keys_rise key d least (x ∷ xs) rise zero (suc j) before within =
    key_above key d (key x) xs (and_second _ _ rise) j (omega (arith, within))
keys_rise key d least (x ∷ xs) rise (suc i) (suc j) before within =
    keys_rise key d (key x) xs (and_second _ _ rise) i j (omega (arith, before))
    (omega (arith, within))

-- an element that has the key is the one that is found
pub key_found : {X : Type 0} (key : X → ℕ) (d : X) (least : ℕ) (xs : List X) →
    rises_above least (map key xs) ≡ true → (x i : ℕ) → i < length xs → key (get_or xs i d) ≡ x →
    find (λ e. key e == x) xs ≡ Some (get_or xs i d)
key_found key d least [] rise x i within here = absurd (omega (arith, within))
key_found key d least (e ∷ xs) rise x zero within here = rw (eq-eqb (key e) x here) refl
key_found key d least (e ∷ xs) rise x (suc i) within here =
    let above : key e < key (get_or xs i d) =
    key_above key d (key e) xs (and_second _ _ rise) i (omega (arith, within)) in
    let there : key (get_or xs i d) ≡ x = here in
    let other : (key e == x) ≡ false =
    ne_eqb (key e) x (λ same. omega (arith, above, same, there)) in
    let inside : i < length xs = omega (arith, within) in
    let rest : find (λ z. key z == x) xs ≡ Some (get_or xs i d) =
    key_found key d (key e) xs (and_second _ _ rise) x i inside there in
    rw other rest

-- where no element has the key, none is found
key_absent : {X : Type 0} (key : X → ℕ) (d : X) (x : ℕ) (xs : List X) →
    ((j : ℕ) → j < length xs → key (get_or xs j d) ≢ x) → find (λ e. key e == x) xs ≡ None
key_absent key d x [] none = refl
key_absent key d x (e ∷ xs) none =
    let other : (key e == x) ≡ false = ne_eqb (key e) x (none zero (omega arith)) in
    rw other (key_absent key d x xs (λ j within. none (suc j) (omega (arith, within))))

-- how keys compare with one rises along them
compared : {X : Type 0} (key : X → ℕ) (d : X) (least : ℕ) (xs : List X) →
    rises_above least (map key xs) ≡ true → (x : ℕ) →
    IsNonDecreasingBy (λ e. ordering_index (nat_cmp (key e) x)) xs
compared key d least xs rise x =
    IsNonDecreasingBy-from_default (λ e. ordering_index (nat_cmp (key e) x)) xs d
    (λ i j before within.
    let low : key (get_or xs i d) ≤ key (get_or xs j d) =
    grind (arith, keys_rise key d least xs rise i j, λ (same : i ≡ j). ap (λ k. key (get_or xs k d)) same) in
    grind (arith, nat_tests, low))

-- what the search ends at: an element that has the key
pub search_at : {X : Type 0} (key : X → ℕ) (d : X) (xs : List X) (x at : ℕ) →
    IsBinarySearchResult (λ e. nat_cmp (key e) x) xs (Ok at) → key (get_or xs at d) ≡ x
search_at key d xs x at equal = ranked _ x _ (sym (equal d))

-- and where it fails, none has it
pub search_failed : {X : Type 0} (key : X → ℕ) (d : X) (least : ℕ) (xs : List X) →
    rises_above least (map key xs) ≡ true → (x at : ℕ) →
    IsSearchInRange (Err at) (length xs) →
    IsBinarySearchResult (λ e. nat_cmp (key e) x) xs (Err at) →
    find (λ e. key e == x) xs ≡ None
search_failed key d least xs rise x at within parted =
    key_absent key d x xs (λ j inside same.
    let sides = parted (compared key d least xs rise x) in
    elim (cases_lt j at) [
      | inl before ↦ let less : key (get_or xs j d) < x = ranked _ x _ (sym (sides.0 j d (omega arith) before)) in
          omega (arith, less, same)
      | inr after ↦ let more : x < key (get_or xs j d) = ranked _ x _ (sym (sides.1 j d after inside)) in
          omega (arith, more, same)
    ])
