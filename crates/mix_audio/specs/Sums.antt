-- The sums of the tracks at one place in time.
use Rattle.std.specs.Prelude.{ℕ, ℤ, pos, ◌<◌, ◌^◌, List, slice_index_or, unsigned_abs}

-- the sum of a track
abbrev pub sum_of : List ℤ → ℕ → ℤ
sum_of sums track = slice_index_or sums track (pos 0)

-- to each sum one more can be added without running over
abbrev pub HasRoom : List ℤ → Type 0
HasRoom sums = (track : ℕ) → track < 6 → unsigned_abs (sum_of sums track) < 2 ^ 100
