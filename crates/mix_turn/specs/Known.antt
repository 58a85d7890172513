-- What a turnstile and its passes show.
use Rattle.std.specs.Prelude.{◌≡◌, ℕ, ◌<◌, Bool, false, List, [], ◌∷◌, ◌++◌, length, All, if◌then◌else◌, nat_lt}
use mathlib.Core.List.{IsPrefix}
use Rattle.atomic_table.specs.Seated.{TableId}
use Rattle.mix_base.specs.declared.numbers.PassNo.{PassNo}
use Rattle.mix_turn.specs.declared.entered.Entered.{Entered}
use Rattle.mix_turn.specs.declared.entered.PassEntries.{PassEntries}
use Rattle.mix_turn.specs.declared.turn.Turn.{Turn}
use Rattle.mix_turn.specs.declared.view.Tally.{Tally}
use Rattle.mix_turn.specs.Entries.{pass_no, entered, HasAllOf}
use Rattle.mix_turn.specs.Tally.{no_tally}
use Rattle.mix_turn.specs.Parts.{all_parts}
use Rattle.mix_turn.specs.Turns.{done_entries}

-- Of a turnstile: which one it is, and the start of its value, which no turn changes
pub record Gate (S : Type 0) : Type 0 where
  pub id : TableId
  pub start : S

-- Of a pass: the turnstile that it is of, that one's start, and its own number; its own entries in order; those of the passes that were joined into it;
-- the beginning of the history that it has seen; whether it has seen a turn refused as full; a number that is above every number it knows of;
-- its parts of the right to close; and what it remembers of its looks and tries
pub record Known (E S : Type 0) : Type 0 where
  pub of : TableId
  pub start : S
  pub number : ℕ
  pub own : List E
  pub joined : List (PassEntries E)
  pub seen : List (Entered E)
  pub full : Bool
  pub above : ℕ
  pub parts : ℕ
  pub tally : Tally

module _ {E S : Type 0} where
  -- the pass is one of this turnstile's, and shows its start
  pub record IsOf (gate : Gate S) (pass : Known E S) : Type 0 where
    pub id : pass.of ≡ gate.id
    pub start : pass.start ≡ gate.start

  -- the first pass of a turnstile: it has number 0 and all parts, has made and seen nothing, and has looked at nothing
  pub record IsFirst (gate : Gate S) (pass : Known E S) : Type 0 where
    pub of : IsOf gate pass
    pub number : pass.number ≡ 0
    pub own : pass.own ≡ []
    pub joined : pass.joined ≡ []
    pub seen : pass.seen ≡ []
    pub full : pass.full ≡ false
    pub above : pass.above ≡ 1
    pub parts : pass.parts ≡ all_parts
    pub tally : pass.tally ≡ no_tally

  -- a pass's number, with its own entries
  abbrev pub line_of : Known E S → PassEntries E
  line_of pass = record { pass = pass.number; entries = pass.own }

  -- the same of the pass and of all that were joined into it
  abbrev pub lines_of : Known E S → List (PassEntries E)
  lines_of pass = line_of pass ∷ pass.joined

  -- who makes the pass's next entry
  abbrev pub next_of : Known E S → PassNo
  next_of pass = pass_no pass.number (length pass.own)

  -- This history has the pass's own entries, each once, in order, numbered from 0, and those of the passes joined into it
  abbrev pub HasEntriesOf : List (Entered E) → Known E S → Type 0
  HasEntriesOf history pass = All (HasAllOf history) (lines_of pass)

  -- every number that the pass knows of is below the one that it has for that
  abbrev pub KnowsAbove : Known E S → Type 0
  KnowsAbove pass = All (λ line. line.pass < pass.above) (lines_of pass)

  -- The answer is the one that `turn` gave: there was a journal, which begins with all that the pass had seen, and the pass has now seen that journal up to and with its own newest entry
  -- where the turn was done; the value says of its turns that this answer agrees with the start, the journal found and the entry
  pub record Answers {A : Type 0} (says : S → List (Entered E) → Entered E → Turn A → Type 0) (old new : Known E S) (entry : E) (reply : Turn A) : Type 0 where
    pub found : List (Entered E)
    pub longer : IsPrefix old.seen found
    pub seen : new.seen ≡ found ++ done_entries reply (entered (next_of old) entry)
    pub agrees : says old.start found (entered (next_of old) entry) reply

-- the greater of two numbers
abbrev pub greater : ℕ → ℕ → ℕ
greater m n = if nat_lt m n then n else m
