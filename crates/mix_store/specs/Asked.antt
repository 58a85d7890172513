-- The next serial, looked for one by one.
use Rattle.std.specs.Prelude.{ℕ, Option, Some, None, ◌||◌, nat_le, if◌then◌else◌}

-- the nearer of what was found and of y, where y is above x
abbrev pub nearer : ℕ → Option ℕ → ℕ → Option ℕ
nearer x None y = if nat_le y x then None else Some y
nearer x (Some z) y = if nat_le y x || nat_le z y then Some z else Some y
