-- A piece that is written by calls of a device, one after another.
use Rattle.std.proofs.Common.{◌≡◌, ℕ, ◌<◌, ◌≤◌, List, [], ◌∷◌, length, drop, sum, refl, ap, ◌∙◌, sym, arith}
use Rattle.std.proofs.Common.{Option, Some}
use Rattle.std.proofs.lemmas.Grind.{common_steps}
use Rattle.std.proofs.lemmas.List.{drop-drop, length-drop}
use Rattle.std.proofs.lemmas.List.Sums.{sum_by-cons}
use Rattle.mix_outside.specs.Devices.{IsFault, Took, Writes}
use Rattle.mix_outside.specs.declared.sink.Put.{Put}
use Rattle.mix_outside.specs.declared.sink.Put.TheVariants as puts

-- where a call takes some of a piece, the writing of the rest is the writing of the piece
pub one_more_call : {D : Type 0} (Accepts : D → List ℕ → Option ℕ → D → Type 0)
    (old next : D) (piece : List ℕ) (count : ℕ) → 0 < count → count ≤ length piece →
    Accepts old piece (Some count) next →
    (put : Put) (new : D) → Writes Accepts next (drop count piece) put new →
    Writes Accepts old piece put new
one_more_call Accepts old next piece count some within taken puts.Done new (counts, took, whole) =
    let total = sum_by-cons (λ (n : ℕ). n) count counts in
    let rest = length-drop count piece in
    (count ∷ counts, (next, some, taken, took), omega arith)
one_more_call Accepts old next piece count some within taken puts.Failed new
    (counts, last, answer, took, less, failed, fault) =
    let total = sum_by-cons (λ (n : ℕ). n) count counts in
    let rest = length-drop count piece in (
      count ∷ counts,
      last,
      answer,
      (next, some, taken, took),
      omega arith,
      rw (total, ← drop-drop (sum counts) count piece) failed,
      fault,
    )

-- a call that is a fault, where something is left
pub fault_there : {D : Type 0} (Accepts : D → List ℕ → Option ℕ → D → Type 0)
    (last new : D) (piece : List ℕ) (answer : Option ℕ) → 0 < length piece →
    Accepts last piece answer new → IsFault answer → Writes Accepts last piece puts.Failed new
fault_there Accepts last new piece answer some failed fault =
    ([], last, answer, refl, some, failed, fault)

-- nothing is left to write
pub none_left : {D : Type 0} (Accepts : D → List ℕ → Option ℕ → D → Type 0)
    (last : D) (piece : List ℕ) → length piece ≡ 0 → Writes Accepts last piece puts.Done last
none_left Accepts last piece none = ([], refl, sym none)
