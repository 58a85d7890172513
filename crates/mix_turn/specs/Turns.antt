-- What a turn answers, seen as data.
use Rattle.std.specs.Prelude.{ℕ, Bool, true, false, List, [], ◌∷◌, ⊤}
use Rattle.mix_turn.specs.declared.turn.Turn.{Turn}
use Rattle.mix_turn.specs.declared.turn.Turn.TheVariants.{Done, Missed}
use Rattle.mix_turn.specs.declared.turn.Miss.{Miss}
use Rattle.mix_turn.specs.declared.turn.Miss.TheVariants.{Full, NoMemory}

-- it was missed since the history was full
abbrev pub is_full_miss : Miss → Bool
is_full_miss (Full turns bytes) = true
is_full_miss NoMemory = false

module _ {A : Type 0} where
  -- a fact of the answer where the turn was done
  abbrev pub IfDone : Turn A → (A → Type 0) → Type 0
  IfDone (Done a) P = P a
  IfDone (Missed m) P = ⊤

  -- a fact where the turn was done
  abbrev pub OnDone : Turn A → Type 0 → Type 0
  OnDone (Done a) P = P
  OnDone (Missed m) P = ⊤

  -- a fact where the turn was missed
  abbrev pub OnMissed : Turn A → Type 0 → Type 0
  OnMissed (Done a) P = ⊤
  OnMissed (Missed m) P = P

  -- the turn was refused since the history was full
  abbrev pub is_full : Turn A → Bool
  is_full (Done a) = false
  is_full (Missed m) = is_full_miss m

  -- a done turn leaves its entry, and a missed one leaves nothing
  abbrev pub done_entries : {E : Type 0} → Turn A → E → List E
  done_entries (Done a) e = e ∷ []
  done_entries (Missed m) e = []

  -- how many turns were done: this one, or none
  abbrev pub done_turns : Turn A → ℕ
  done_turns (Done a) = 1
  done_turns (Missed m) = 0

  -- how many turns were missed: this one, or none
  abbrev pub missed_turns : Turn A → ℕ
  missed_turns (Done a) = 0
  missed_turns (Missed m) = 1
