-- The right to close is cut in parts. The first pass has all of them, a split halves a pass's parts, and a join adds two passes' parts.
use Rattle.std.specs.Prelude.{ℕ, zero, suc, ◌+◌, ◌-◌, List, [], ◌∷◌}

-- two to the power of n. Callers do not see through it, since they need no more than sums
unfoldable pub doubled : ℕ → ℕ
doubled zero = 1
doubled (suc n) = doubled n + doubled n

-- how many parts a pass has at least, once there are so many numbers
abbrev pub least_parts : ℕ → ℕ
least_parts made = doubled (4294967296 - made)

-- all parts: who has them is alone
abbrev pub all_parts : ℕ
all_parts = least_parts 1

-- the weights of a list's elements, added up
abbrev pub weigh : {A : Type 0} → (A → ℕ) → List A → ℕ
weigh w [] = 0
weigh w (x ∷ xs) = w x + weigh w xs
