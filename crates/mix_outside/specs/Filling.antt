-- What comes of reading ahead.
use Rattle.std.specs.Prelude.{◌≡◌, ℕ, ◌<◌, List, [], length}
use Rattle.mix_outside.specs.declared.read_ahead.Filled.{Filled}
use Rattle.mix_outside.specs.declared.read_ahead.Filled.TheVariants as fills

-- what is left stays left, and the end comes only where nothing is
abbrev pub Fills : Filled → List ℕ → List ℕ → Type 0
Fills fills.More old new = old ≡ new
Fills fills.End old new = (old ≡ []) × (new ≡ [])
Fills fills.Failed old new = old ≡ new

-- something stands ahead exactly where some bytes came
abbrev pub StandsAhead : Filled → List ℕ → Type 0
StandsAhead fills.More ahead = 0 < length ahead
StandsAhead fills.End ahead = ahead ≡ []
StandsAhead fills.Failed ahead = ahead ≡ []
