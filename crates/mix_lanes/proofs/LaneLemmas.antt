-- Lane by lane, vectors are the plain formulas.
use Rattle.std.proofs.Common.{◌≡◌, ℕ, zero, suc, ◌<◌, ◌≤◌, ◌+◌, ◌-◌, ◌*◌, List, [], ◌∷◌, length, map}
use Rattle.std.proofs.Common.{arith, refl, ap}
use Rattle.std.specs.Prelude.{replicate}
use Rattle.std.specs.Prelude.{Bool, true, false, cond, nat_lt, min, max}
use Rattle.std.specs.Simd.Lanes.{zip2, sel_l, Each1}
use Rattle.std.proofs.lemmas.Bool.Decides.{nat_tests}
use Rattle.mix_model.specs.declared.kind.Blend.{Blend}
use Rattle.mix_model.specs.declared.kind.Blend.TheVariants.{Normal, Additive, Subtract, Screen}
use Rattle.mix_model.specs.declared.kind.Blend.TheVariants.{Multiply, Lighten, Darken}
use Rattle.mix_model.specs.Blending.{product_of, mode_over}
use Rattle.mix_lanes.specs.Channels.{nearest_of, weighed, weights_of}
use Rattle.mix_lanes.proofs.Sums.{product_small, product_below, screen_small, weighed_small}

-- channels are bytes
abbrev pub Small : List ℕ → Type 0
Small xs = Each1 (λ x. x ≤ 255) xs

-- quotients, by an addition a, a multiplication m and a shift s of numbers that a cast c leaves as
-- they are
module _ (a m s : ℕ → ℕ → ℕ) (c : ℕ → ℕ)
    (is : (z : ℕ) → z ≤ 65025 → s (m (c (a z 128)) 257) 16 ≡ nearest_of z) where
  pub nearest_lanes : (n : ℕ) (xs : List ℕ) → length xs ≡ n → Each1 (λ x. x ≤ 65025) xs →
      zip2 s (zip2 m (map c (zip2 a xs (replicate n 128))) (replicate n 257)) (replicate n 16)
      ≡ map nearest_of xs
  nearest_lanes zero [] long p = refl
  nearest_lanes (suc n) (x ∷ xs) long p =
      rw (is x p.0, nearest_lanes n xs (omega arith) p.1) refl
  nearest_lanes n xs long p = absurd (omega arith)

-- products, by a multiplication m
module _ (m : ℕ → ℕ → ℕ) (is : (x y : ℕ) → x ≤ 255 → y ≤ 255 → m x y ≡ x * y) where
  pub product_lanes : (xs ys : List ℕ) → Small xs → Small ys →
      map nearest_of (zip2 m xs ys) ≡ zip2 product_of xs ys
  product_lanes [] ys p q = refl
  product_lanes (x ∷ xs) [] p q = refl
  product_lanes (x ∷ xs) (y ∷ ys) p q =
      rw (is x y p.0 q.0, product_lanes xs ys p.1 q.1) refl

  pub products_small : (xs ys : List ℕ) → Small xs → Small ys →
      Each1 (λ x. x ≤ 65025) (zip2 m xs ys)
  products_small [] ys p q = tt
  products_small (x ∷ xs) [] p q = tt
  products_small (x ∷ xs) (y ∷ ys) p q =
      let small = product_small x y p.0 q.0 in
      (rw (is x y p.0 q.0) small, products_small xs ys p.1 q.1)

-- two vectors made of the same two, joined
module _ (f g h k : ℕ → ℕ → ℕ)
    (is : (x y : ℕ) → x ≤ 255 → y ≤ 255 → f (g x y) (h x y) ≡ k x y) where
  pub joined_lanes : (xs ys : List ℕ) → Small xs → Small ys →
      zip2 f (zip2 g xs ys) (zip2 h xs ys) ≡ zip2 k xs ys
  joined_lanes [] ys p q = refl
  joined_lanes (x ∷ xs) [] p q = refl
  joined_lanes (x ∷ xs) (y ∷ ys) p q =
      rw (is x y p.0 q.0, joined_lanes xs ys p.1 q.1) refl

-- a vector, and one made of it and another
module _ (f g k : ℕ → ℕ → ℕ) (is : (x y : ℕ) → x ≤ 255 → y ≤ 255 → f y (g y x) ≡ k x y) where
  pub under_lanes : (xs ys : List ℕ) → Small xs → Small ys →
      zip2 f ys (zip2 g ys xs) ≡ zip2 k xs ys
  under_lanes [] [] p q = refl
  under_lanes [] (y ∷ ys) p q = refl
  under_lanes (x ∷ xs) [] p q = refl
  under_lanes (x ∷ xs) (y ∷ ys) p q =
      rw (is x y p.0 q.0, under_lanes xs ys p.1 q.1) refl

-- a constant, and a vector made of two
module _ (f g k : ℕ → ℕ → ℕ) (b : ℕ)
    (is : (x y : ℕ) → x ≤ 255 → y ≤ 255 → f b (g x y) ≡ k x y) where
  pub bounded_lanes : (n : ℕ) (xs ys : List ℕ) → length xs ≡ n → Small xs → Small ys →
      zip2 f (replicate n b) (zip2 g xs ys) ≡ zip2 k xs ys
  bounded_lanes zero [] ys long p q = refl
  bounded_lanes (suc n) (x ∷ xs) [] long p q = refl
  bounded_lanes (suc n) (x ∷ xs) (y ∷ ys) long p q =
      rw (is x y p.0 q.0, bounded_lanes n xs ys (omega arith) p.1 q.1) refl
  bounded_lanes n xs ys long p q = absurd (omega arith)

-- weighed channels, by a multiplication, an addition and a subtraction
module _ (m a b : ℕ → ℕ → ℕ) (is : (f w d : ℕ) → f ≤ 255 → w ≤ 255 → d ≤ 255 →
    a (m f w) (m d (b 255 w)) ≡ f * w + d * (255 - w)) where
  pub weighed_lanes : (n : ℕ) (fs ws ds : List ℕ) → length ws ≡ n → Small fs → Small ws →
      Small ds → zip2 a (zip2 m fs ws) (zip2 m ds (zip2 b (replicate n 255) ws))
      ≡ weighed fs ws ds
  weighed_lanes zero [] [] ds long p q r = refl
  weighed_lanes zero (f ∷ fs) [] ds long p q r = refl
  weighed_lanes (suc n) [] (w ∷ ws) ds long p q r = refl
  weighed_lanes (suc n) (f ∷ fs) (w ∷ ws) [] long p q r = refl
  weighed_lanes (suc n) (f ∷ fs) (w ∷ ws) (d ∷ ds) long p q r =
      rw (is f w d p.0 q.0 r.0, weighed_lanes n fs ws ds (omega arith) p.1 q.1 r.1) refl
  weighed_lanes n fs ws ds long p q r = absurd (omega arith)

pub all_weighed_small : (fs ws ds : List ℕ) → Small fs → Small ws → Small ds →
    Each1 (λ x. x ≤ 65025) (weighed fs ws ds)
all_weighed_small [] ws ds p q r = tt
all_weighed_small (f ∷ fs) [] ds p q r = tt
all_weighed_small (f ∷ fs) (w ∷ ws) [] p q r = tt
all_weighed_small (f ∷ fs) (w ∷ ws) (d ∷ ds) p q r =
    (weighed_small f w d p.0 q.0 r.0, all_weighed_small fs ws ds p.1 q.1 r.1)

pub length_weighed : (fs ws ds : List ℕ) → length fs ≡ length ws → length ws ≡ length ds →
    length (weighed fs ws ds) ≡ length fs
length_weighed [] ws ds same alike = refl
length_weighed (f ∷ fs) (w ∷ ws) (d ∷ ds) same alike =
    ap suc (length_weighed fs ws ds (omega arith) (omega arith))
length_weighed fs ws ds same alike = absurd (omega arith)

-- what a mode makes of two channels is one
met_small : (mode : Blend) (s d : ℕ) → s ≤ 255 → d ≤ 255 → mode_over mode s d ≤ 255
met_small Normal s d p q = p
met_small Additive s d p q = omega arith
met_small Subtract s d p q = omega arith
met_small Screen s d p q = let small = screen_small s d p q in omega (arith, small)
met_small Multiply s d p q = let small = product_below s d p q in omega (arith, small)
met_small Lighten s d p q = omega arith
met_small Darken s d p q = omega arith

pub all_met_small : (mode : Blend) (ss ds : List ℕ) → Small ss → Small ds →
    Small (zip2 (mode_over mode) ss ds)
all_met_small mode [] ds p q = tt
all_met_small mode (s ∷ ss) [] p q = tt
all_met_small mode (s ∷ ss) (d ∷ ds) p q =
    (met_small mode s d p.0 q.0, all_met_small mode ss ds p.1 q.1)

-- quotients of sums are channels
pub nearest_small : (xs : List ℕ) → Each1 (λ x. x ≤ 65025) xs → Small (map nearest_of xs)
nearest_small [] p = tt
nearest_small (x ∷ xs) p = let small = p.0 in (omega (arith, small), nearest_small xs p.1)

-- weights are alphas
pub weights_small : (n : ℕ) (s : List ℕ) → length s ≡ 4 * n → Small s → Small (weights_of s)
weights_small zero [] long p = tt
weights_small (suc n) (r ∷ g ∷ b ∷ a ∷ s) long p =
    let alpha : a ≤ 255 = p.1.1.1.0 in
    (alpha, (alpha, (alpha, (omega arith, weights_small n s (omega arith) p.1.1.1.1))))
weights_small n s long p = absurd (omega arith)

pub length_weights : (n : ℕ) (s : List ℕ) → length s ≡ 4 * n → length (weights_of s) ≡ 4 * n
length_weights zero [] long = refl
length_weights (suc n) (r ∷ g ∷ b ∷ a ∷ s) long =
    let rest = length_weights n s (omega arith) in omega (arith, rest)
length_weights n s long = absurd (omega arith)

-- a list as long as a vector's lanes that isn't changed by a cast
pub map_same : (f : ℕ → ℕ) → ((x : ℕ) → x ≤ 255 → f x ≡ x) → (xs : List ℕ) → Small xs →
    map f xs ≡ xs
map_same f is [] p = refl
map_same f is (x ∷ xs) p = rw (is x p.0, map_same f is xs p.1) refl

pub map_is : (f : ℕ → ℕ) → ((x : ℕ) → f x ≡ x) → (xs : List ℕ) → map f xs ≡ xs
map_is f is [] = refl
map_is f is (x ∷ xs) = rw (is x, map_is f is xs) refl

-- the first of two vectors
pub first_lanes : (xs ys : List ℕ) → length xs ≡ length ys →
    xs ≡ zip2 (mode_over Normal) xs ys
first_lanes [] [] same = refl
first_lanes (x ∷ xs) (y ∷ ys) same = ap (λ rest. x ∷ rest) (first_lanes xs ys (omega arith))
first_lanes xs ys same = absurd (omega arith)

-- the less of two lanes, and the greater, by the test of which is less
least_by : (x y : ℕ) (p : Bool) → nat_lt x y ≡ p → cond p x y ≡ min x y
least_by x y true is = let h : x < y = grind (arith, nat_tests) in omega arith
least_by x y false is = let h : y ≤ x = grind (arith, nat_tests) in omega arith

pub least_lanes : (xs ys : List ℕ) → length xs ≡ length ys →
    sel_l (zip2 nat_lt xs ys) xs ys ≡ zip2 min xs ys
least_lanes [] [] same = refl
least_lanes (x ∷ xs) (y ∷ ys) same =
    rw (least_by x y (nat_lt x y) refl, least_lanes xs ys (omega arith)) refl
least_lanes xs ys same = absurd (omega arith)

greatest_by : (x y : ℕ) (p : Bool) → nat_lt x y ≡ p → cond p y x ≡ max x y
greatest_by x y true is = let h : x < y = grind (arith, nat_tests) in omega arith
greatest_by x y false is = let h : y ≤ x = grind (arith, nat_tests) in omega arith

pub greatest_lanes : (xs ys : List ℕ) → length xs ≡ length ys →
    sel_l (zip2 nat_lt xs ys) ys xs ≡ zip2 max xs ys
greatest_lanes [] [] same = refl
greatest_lanes (x ∷ xs) (y ∷ ys) same =
    rw (greatest_by x y (nat_lt x y) refl, greatest_lanes xs ys (omega arith)) refl
greatest_lanes xs ys same = absurd (omega arith)
