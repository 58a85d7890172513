-- What a write of lines does to the bytes that a sink holds.
use Rattle.std.specs.Prelude.{◌≡◌, ℕ, List, ◌++◌, flat_map, Result, Ok, Err}
use Rattle.mix_outside.specs.Bytes.{AppendsPrefix}
use Rattle.mix_script.specs.declared.write_fault.WriteFault.{WriteFault}
use Rattle.mix_script.specs.declared.write_fault.WriteFault.TheVariants.{Failed, NoMemory}

-- lines one behind the other
abbrev pub joined : List (List ℕ) → List ℕ
joined lines = flat_map (λ line. line) lines

-- the first of the lines
abbrev pub IsFirst : List (List ℕ) → List (List ℕ) → Type 0
IsFirst first lines = (rest : List (List ℕ)) × (lines ≡ first ++ rest)

-- the first of the lines are appended, each whole
abbrev pub AppendsLines : List (List ℕ) → List ℕ → List ℕ → Type 0
AppendsLines lines old new =
    (first : List (List ℕ)) × IsFirst first lines × (new ≡ old ++ joined first)

-- All lines are written; or some front of them, where the sink failed; or the first of them, each
-- whole, where there was no memory for the next.
abbrev pub Writes : Result (Unit {0}) WriteFault → List (List ℕ) → List ℕ → List ℕ → Type 0
Writes (Ok done) lines old new = new ≡ old ++ joined lines
Writes (Err Failed) lines old new = AppendsPrefix (joined lines) old new
Writes (Err NoMemory) lines old new = AppendsLines lines old new
