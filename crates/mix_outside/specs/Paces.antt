-- What one call of a pace does to what it tells.
use Rattle.std.specs.Prelude.{ℕ, Bool, true, false}
use Rattle.mix_outside.specs.declared.pace.Beat.{Beat}
use Rattle.mix_outside.specs.declared.pace.Beat.TheVariants as beats

-- how many ticks a beat is
abbrev pub ticks_in : Beat → ℕ
ticks_in beats.Tick = 1
ticks_in beats.End = 0

-- whether a beat is the end
abbrev pub is_last : Beat → Bool
is_last beats.Tick = false
is_last beats.End = true
