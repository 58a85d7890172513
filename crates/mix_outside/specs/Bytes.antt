-- What one call of a source or of a sink does to the bytes that it tells.
use Rattle.std.specs.Prelude.{◌≡◌, ℕ, ◌≤◌, List, [], ◌++◌, take}
use Rattle.mix_outside.specs.declared.source.Take.{Take}
use Rattle.mix_outside.specs.declared.source.Take.TheVariants as takes
use Rattle.mix_outside.specs.declared.sink.Put.{Put}
use Rattle.mix_outside.specs.declared.sink.Put.TheVariants as puts

-- a read that gives bytes gives one at least, and no more than there is room for
abbrev pub IsWithin : Take → ℕ → Type 0
IsWithin (takes.Bytes n) room = (1 ≤ n) × (n ≤ room)
IsWithin takes.End room = Unit {0}
IsWithin takes.Failed room = Unit {0}

-- The bytes given stand first in `into`, were the first of what was left, and are taken from it.
-- A source ends only where nothing is left; where it fails, all stays left.
abbrev pub Takes : Take → List ℕ → List ℕ → List ℕ → Type 0
Takes (takes.Bytes n) into old new = old ≡ take n into ++ new
Takes takes.End into old new = (old ≡ []) × (new ≡ [])
Takes takes.Failed into old new = old ≡ new

-- the front of a list
abbrev pub IsPrefix : List ℕ → List ℕ → Type 0
IsPrefix front all = (rest : List ℕ) × (all ≡ front ++ rest)

-- some front of the piece is appended
abbrev pub AppendsPrefix : List ℕ → List ℕ → List ℕ → Type 0
AppendsPrefix piece old new = (front : List ℕ) × IsPrefix front piece × (new ≡ old ++ front)

-- a write that is done appends the whole piece, and one that fails some front of it
abbrev pub Puts : Put → List ℕ → List ℕ → List ℕ → Type 0
Puts puts.Done piece old new = new ≡ old ++ piece
Puts puts.Failed piece old new = AppendsPrefix piece old new
