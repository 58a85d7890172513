-- More rounds leave a rank, and a weight, as they are.
use Rattle.std.proofs.Common.{◌≡◌, ℕ, zero, suc, ◌<◌, List, [], ◌∷◌, map, Option, Some, None, refl}
use Rattle.std.proofs.Common.{ap, arith}
use Rattle.mix_model.specs.Sets.{greatest}
use Rattle.mix_model.specs.Ranks.{rank_over, rank_by, sum_of, weight_over, weight_by}

-- two ranks that agree below a bound have the same greatest value, where that is below the bound
greatest_agrees : (f h : ℕ → ℕ) (n : ℕ) → ((c : ℕ) → f c < n → h c ≡ f c) → (xs : List ℕ) →
    greatest (map f xs) < n → greatest (map h xs) ≡ greatest (map f xs)
greatest_agrees f h n same [] below = refl
greatest_agrees f h n same (x ∷ xs) below =
    let first : h x ≡ f x = same x (omega (arith, below)) in
    let others : greatest (map h xs) ≡ greatest (map f xs) =
    greatest_agrees f h n same xs (omega (arith, below)) in
    rw (first, others)

-- two weights that agree where a rank is below a bound have the same sum there
sum_agrees : (f v w : ℕ → ℕ) (n : ℕ) → ((c : ℕ) → f c < n → w c ≡ v c) → (xs : List ℕ) →
    greatest (map f xs) < n → sum_of (map w xs) ≡ sum_of (map v xs)
sum_agrees f v w n same [] below = refl
sum_agrees f v w n same (x ∷ xs) below =
    let first : w x ≡ v x = same x (omega (arith, below)) in
    let others : sum_of (map w xs) ≡ sum_of (map v xs) =
    sum_agrees f v w n same xs (omega (arith, below)) in
    rw (first, others)

-- the same for a row that has items or not
inner_rank_agrees : (f h : ℕ → ℕ) (n : ℕ) → ((c : ℕ) → f c < n → h c ≡ f c) →
    (o : Option (List ℕ)) → rank_over f o < suc n → rank_over h o ≡ rank_over f o
inner_rank_agrees f h n same None below = refl
inner_rank_agrees f h n same (Some xs) below =
    ap suc (greatest_agrees f h n same xs (omega (arith, below)))

inner_weight_agrees : (f v w : ℕ → ℕ) (n : ℕ) → ((c : ℕ) → f c < n → w c ≡ v c) →
    (o : Option (List ℕ)) → rank_over f o < suc n → weight_over w o ≡ weight_over v o
inner_weight_agrees f v w n same None below = refl
inner_weight_agrees f v w n same (Some xs) below =
    ap suc (sum_agrees f v w n same xs (omega (arith, below)))

-- a rank below the rounds stays with one more
pub rank_stands : (inner : ℕ → Option (List ℕ)) (n x : ℕ) → rank_by inner n x < n →
    rank_by inner (suc n) x ≡ rank_by inner n x
rank_stands inner zero x below = omega (arith, below)
rank_stands inner (suc n) x below =
    inner_rank_agrees (λ c. rank_by inner n c) (λ c. rank_by inner (suc n) c) n
    (rank_stands inner n) (inner x) below

-- and so does a weight
pub weight_stands : (inner : ℕ → Option (List ℕ)) (n x : ℕ) → rank_by inner n x < n →
    weight_by inner (suc n) x ≡ weight_by inner n x
weight_stands inner zero x below = omega (arith, below)
weight_stands inner (suc n) x below =
    inner_weight_agrees (λ c. rank_by inner n c) (λ c. weight_by inner n c)
    (λ c. weight_by inner (suc n) c) n (weight_stands inner n) (inner x) below
