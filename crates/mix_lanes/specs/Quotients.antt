-- Sums of a fade, before they are divided by its frames.
use Rattle.std.specs.Prelude.{ℕ, ◌+◌, ◌*◌, ◌/◌, ◌-◌, ◌≤◌, ◌≡◌, List, length}
use Rattle.std.specs.Simd.Lanes.{Each1}

-- so many parts of the one as remain of n, t of the other, and a half
abbrev pub weighted : ℕ → ℕ → ℕ → ℕ → ℕ
weighted t n from to = (n - t) * from + t * to + n / 2

-- sixteen sums that are no greater than those of whole channels
pub record AreFadeSums (n : ℕ) (xs : List ℕ) : Type 0 where
  pub long : length xs ≡ 16
  pub small : Each1 (λ x. x ≤ 255 * n + n / 2) xs
