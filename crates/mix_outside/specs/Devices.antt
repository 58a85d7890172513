-- What the system answers to a read or a write, and what comes of it.
use Rattle.std.specs.Prelude.{◌≡◌, ℕ, ◌<◌, ◌==◌, List, [], ◌∷◌, length, drop, sum, ⊤}
use Rattle.std.specs.Prelude.{Option, Some, None, Result, Ok, Err, if◌then◌else◌}
use Rattle.mix_outside.specs.Faults.{one_more}
use Rattle.mix_outside.specs.declared.source.Take.{Take}
use Rattle.mix_outside.specs.declared.source.Take.TheVariants as takes
use Rattle.mix_outside.specs.declared.sink.Put.{Put}
use Rattle.mix_outside.specs.declared.sink.Put.TheVariants as puts

-- what the system answered: so many bytes, or a failure
abbrev pub answer_of : {E : Type 0} → Result ℕ E → Option ℕ
answer_of (Ok count) = Some count
answer_of (Err error) = None

-- what an answer to a read comes to: no bytes are the end
abbrev pub take_for : Option ℕ → Take
take_for (Some count) = if count == 0 then takes.End else takes.Bytes count
take_for None = takes.Failed

-- the faults after a read: one more exactly where it failed
abbrev pub faults_after_take : Take → ℕ → ℕ
faults_after_take (takes.Bytes count) faults = faults
faults_after_take takes.End faults = faults
faults_after_take takes.Failed faults = one_more faults

-- A read is one call of the device, and the answer to it says what was taken.
abbrev pub Reads : {D : Type 0} → (D → List ℕ → Option ℕ → D → Type 0) →
    D → List ℕ → Take → D → Type 0
Reads Gives old into take new =
    (answer : Option ℕ) × Gives old into answer new × (take ≡ take_for answer)

-- whether an answer to a write of something is a failure: an error, or no byte taken
abbrev pub IsFault : Option ℕ → Type 0
IsFault None = ⊤
IsFault (Some count) = count ≡ 0

-- Calls of a device, one after another: each is handed what is left of the piece, and takes so many
-- bytes of it, one at least.
abbrev pub Took : {D : Type 0} → (D → List ℕ → Option ℕ → D → Type 0) →
    List ℕ → D → List ℕ → D → Type 0
Took Accepts [] old piece new = new ≡ old
Took {D} Accepts (count ∷ counts) old piece new = (next : D) × (0 < count)
    × Accepts old piece (Some count) next × Took Accepts counts next (drop count piece) new

-- A write is done where the counts that the device answered come to the whole piece. It failed where
-- they come to less, and the next answer was a fault.
abbrev pub Writes : {D : Type 0} → (D → List ℕ → Option ℕ → D → Type 0) →
    D → List ℕ → Put → D → Type 0
Writes Accepts old piece puts.Done new =
    (counts : List ℕ) × Took Accepts counts old piece new × (sum counts ≡ length piece)
Writes {D} Accepts old piece puts.Failed new = (counts : List ℕ) × (last : D) × (answer : Option ℕ)
    × Took Accepts counts old piece last × (sum counts < length piece)
    × Accepts last (drop (sum counts) piece) answer new × IsFault answer
