-- A history's entries, and those of one pass.
use Rattle.std.specs.Prelude.{◌≡◌, ℕ, suc, ◌+◌, List, [], ◌∷◌, length, ◌==◌, nat_lt, if◌then◌else◌}
use Rattle.mix_base.specs.declared.numbers.PassNo.{PassNo}
use Rattle.mix_turn.specs.declared.entered.Entered.{Entered}
use Rattle.mix_turn.specs.declared.entered.PassEntries.{PassEntries}

-- the entry with this number of this pass
abbrev pub pass_no : ℕ → ℕ → PassNo
pass_no p n = record { pass = p; number = n }

module _ {E : Type 0} where
  -- an entry, with who made it
  abbrev pub entered : PassNo → E → Entered E
  entered from e = record { from = from; entry = e }

  -- the entries of one pass in a history, in its order
  abbrev pub entries_of : ℕ → List (Entered E) → List (Entered E)
  entries_of p [] = []
  entries_of p (x ∷ xs) = if x.from.pass == p then x ∷ entries_of p xs else entries_of p xs

  -- entries as one pass makes them, numbered from n on
  abbrev pub numbered_from : ℕ → ℕ → List E → List (Entered E)
  numbered_from n p [] = []
  numbered_from n p (e ∷ es) = entered (pass_no p n) e ∷ numbered_from (suc n) p es

  -- of this pass the history has just these entries: each once, in this order, numbered from 0
  abbrev pub HasAllOf : List (Entered E) → PassEntries E → Type 0
  HasAllOf history line = entries_of line.pass history ≡ numbered_from 0 line.pass line.entries

  -- how many of these lines are of one pass
  abbrev pub times : ℕ → List (PassEntries E) → ℕ
  times p [] = 0
  times p (line ∷ lines) = (if line.pass == p then 1 else 0) + times p lines

  -- the longer of two lists
  abbrev pub longer : List (Entered E) → List (Entered E) → List (Entered E)
  longer xs ys = if nat_lt (length xs) (length ys) then ys else xs

  -- the shorter of two lists
  abbrev pub shorter : List (Entered E) → List (Entered E) → List (Entered E)
  shorter xs ys = if nat_lt (length xs) (length ys) then xs else ys
