-- Sixteen channels side by side, as the lanes of a vector.
use Rattle.std.specs.Prelude.{ℕ, ◌+◌, ◌*◌, ◌/◌, ◌-◌, ◌≤◌, ◌≡◌, List, [], ◌∷◌, length}
use Rattle.std.specs.Simd.Lanes.{Each1}

-- four pixels of four channels
pub record AreChannels (xs : List ℕ) : Type 0 where
  pub long : length xs ≡ 16
  pub small : Each1 (λ x. x ≤ 255) xs

-- sums that are no greater than a whole channel times a whole weight
pub record AreSums (xs : List ℕ) : Type 0 where
  pub long : length xs ≡ 16
  pub small : Each1 (λ x. x ≤ 65025) xs

-- a sum of products of channels, the whole of a channel being 1, to the nearest
abbrev pub nearest_of : ℕ → ℕ
nearest_of sum = (sum + 127) / 255

-- how much each channel of whole pixels counts: as the alpha of its pixel says, and an alpha not at all
abbrev pub weights_of : List ℕ → List ℕ
weights_of (red ∷ green ∷ blue ∷ alpha ∷ pixels) =
    alpha ∷ alpha ∷ alpha ∷ 0 ∷ weights_of pixels
weights_of pixels = []

-- so much of each channel as its weight says, and of the one below it the rest
abbrev pub weighed : List ℕ → List ℕ → List ℕ → List ℕ
weighed (f ∷ fs) (w ∷ ws) (d ∷ ds) = (f * w + d * (255 - w)) ∷ weighed fs ws ds
weighed fs ws ds = []
