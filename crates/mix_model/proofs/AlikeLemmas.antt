-- Ranks and weights that are the same, since what is inside rows is alike.
use Rattle.std.proofs.Common.{◌≡◌, ℕ, zero, suc, Bool, true, List, [], ◌∷◌, map, Option, Some}
use Rattle.std.proofs.Common.{None, refl, ap, ◌∙◌}
use Rattle.std.specs.List.{list_all}
use Rattle.std.specs.Option.{option_map_or}
use Rattle.mix_model.specs.Sets.{greatest}
use Rattle.mix_model.specs.Ranks.{rank_by, rank_over, weight_by, weight_over, sum_of}
use Rattle.mix_model.proofs.SetLemmas.{and_first, and_second}

-- alike: whatever its children's ranks and weights are, its own are the same
abbrev pub Alike : Option (List ℕ) → Option (List ℕ) → Type 0
Alike o p = (f : ℕ → ℕ) → (rank_over f o ≡ rank_over f p) × (weight_over f o ≡ weight_over f p)

-- all that is inside passes
abbrev pub inside_all : (ℕ → Bool) → Option (List ℕ) → Bool
inside_all p o = option_map_or (list_all p) o true

all_any : (xs : List ℕ) → list_all (λ x. true) xs ≡ true
all_any [] = refl
all_any (x ∷ xs) = all_any xs

pub inside_any : (o : Option (List ℕ)) → inside_all (λ x. true) o ≡ true
inside_any None = refl
inside_any (Some xs) = all_any xs

map_within : (p : ℕ → Bool) (f k : ℕ → ℕ) → ((x : ℕ) → p x ≡ true → f x ≡ k x) → (xs : List ℕ) →
    list_all p xs ≡ true → map f xs ≡ map k xs
map_within p f k same [] all = refl
map_within p f k same (x ∷ xs) all =
    rw (
      same x (and_first (p x) (list_all p xs) all),
      map_within p f k same xs (and_second (p x) (list_all p xs) all),
    )

over_within : (p : ℕ → Bool) (f k : ℕ → ℕ) → ((x : ℕ) → p x ≡ true → f x ≡ k x) →
    (o : Option (List ℕ)) → inside_all p o ≡ true →
    (rank_over f o ≡ rank_over k o) × (weight_over f o ≡ weight_over k o)
over_within p f k same None all = (refl, refl)
over_within p f k same (Some xs) all =
    let maps : map f xs ≡ map k xs = map_within p f k same xs all in
    (ap (λ ys. suc (greatest ys)) maps, ap (λ ys. suc (sum_of ys)) maps)

-- among those that pass a test, whose insides pass it again
module _ (p : ℕ → Bool) (inner other : ℕ → Option (List ℕ))
    (alike : (x : ℕ) → p x ≡ true → Alike (inner x) (other x))
    (closed : (x : ℕ) → p x ≡ true → inside_all p (other x) ≡ true) where
  pub rank_alike : (n x : ℕ) → p x ≡ true → rank_by inner n x ≡ rank_by other n x
  rank_alike zero x here = refl
  rank_alike (suc n) x here = (alike x here (λ c. rank_by inner n c)).0
      ∙ (over_within p (λ c. rank_by inner n c) (λ c. rank_by other n c) (rank_alike n)
      (other x) (closed x here)).0

  pub weight_alike : (n x : ℕ) → p x ≡ true → weight_by inner n x ≡ weight_by other n x
  weight_alike zero x here = refl
  weight_alike (suc n) x here = (alike x here (λ c. weight_by inner n c)).1
      ∙ (over_within p (λ c. weight_by inner n c) (λ c. weight_by other n c) (weight_alike n)
      (other x) (closed x here)).1
