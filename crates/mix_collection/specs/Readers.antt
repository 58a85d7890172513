-- What readers of a part of a line are made of: each gives what the part says, or nothing.
use Rattle.std.specs.Prelude.{ℕ, ℤ, pos, negsuc, Bool, Option, Some, None, option_and_then}
use Rattle.std.specs.Prelude.{if◌then◌else◌}
use Rattle.mix_base.specs.declared.json.Json.{Json}
use Rattle.mix_base.specs.Json.{as_int}
use Rattle.mix_model.specs.Values.{is_between}

-- the value, where the test holds of it
abbrev pub where_it : {A : Type 0} → (A → Bool) → A → Option A
where_it test a = if test a then Some a else None

infixl 10 ◌>>=◌
-- the next part, where this one is there
abbrev pub ◌>>=◌ : {A B : Type 0} → Option A → (A → Option B) → Option B
None >>= next = None
(Some a) >>= next = next a

-- what the value says, and what stands where there is none
abbrev pub or_standing : {A : Type 0} → A → (Json → Option A) → Option Json → Option A
or_standing standing read None = Some standing
or_standing standing read (Some value) = read value

-- a whole number from one to another, ends included
abbrev pub natural_in : ℕ → ℕ → ℤ → Option ℕ
natural_in least most (pos n) = if is_between least most n then Some n else None
natural_in least most (negsuc n) = None

abbrev pub natural_of : ℕ → ℕ → Json → Option ℕ
natural_of least most value = option_and_then (natural_in least most) (as_int value)
