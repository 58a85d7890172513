-- The front of a piece that a call moves.
use Rattle.std.proofs.Common.{◌≡◌, ℕ, ◌+◌, List, ◌++◌, length, take, drop, refl, sym, ◌∙◌, arith, append_assoc}
use Rattle.std.proofs.lemmas.Grind.{common_steps}
use Rattle.std.proofs.lemmas.List.{take-append-drop}
use Rattle.std.proofs.Math.Seq.{take-append_seam}
use Rattle.mix_outside.specs.Bytes.{AppendsPrefix}

-- the first bytes of a piece are a front of it
pub appends_first : (piece old new : List ℕ) (n : ℕ) → new ≡ old ++ take n piece →
    AppendsPrefix piece old new
appends_first piece old new n appended =
    (take n piece, (drop n piece, sym (take-append-drop n piece)), appended)

-- the bytes copied to the front of a slice, and those behind them, are all that was left
pub copied : (left all piece behind : List ℕ) (at n : ℕ) → drop at all ≡ left →
    length piece ≡ n → piece ≡ take n left → left ≡ take n (piece ++ behind) ++ drop (at + n) all
copied left all piece behind at n rest count first =
    grind (arith, common_steps, take-append_seam piece behind, take-append-drop n left)

-- the same where the bytes come from those read ahead
pub given_ahead : (all ahead piece behind gone left : List ℕ) (n : ℕ) → all ≡ ahead ++ left →
    length piece ≡ n → piece ≡ take n ahead → gone ≡ drop n ahead →
    all ≡ take n (piece ++ behind) ++ (gone ++ left)
given_ahead all ahead piece behind gone left n all_is count first rest =
    let front : take n (piece ++ behind) ≡ piece = rw (← count) (take-append_seam piece behind) in
    let parts : piece ++ gone ≡ ahead = rw (first, rest) (take-append-drop n ahead) in
    all_is ∙ rw (front, ← append_assoc piece gone left, parts) refl
