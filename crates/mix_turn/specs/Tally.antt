-- What a pass remembers of its looks and tries at the lock's words: how many it made, and what the last of each kind found.
use Rattle.std.specs.Prelude.{◌≡◌, ℕ, ◌+◌}
use Rattle.mix_turn.specs.declared.view.Tally.{Tally}

-- the place of the word that counts the numbers that were given to passes
abbrev pub made_word : ℕ
made_word = 0

-- the place of the word that counts the turns that were begun
abbrev pub ticket_word : ℕ
ticket_word = 1

-- the place of the word that counts the turns that are over
abbrev pub serving_word : ℕ
serving_word = 2

-- a pass that has looked at nothing and tried nothing
abbrev pub no_tally : Tally
no_tally =
    record {
      looks = 0;
      serving = 0;
      tries = 0;
      ticket = 0;
      counts = 0;
      looked = 0;
      takes = 0;
      found = 0;
    }

-- one look more at the serving number, which it found to be n
abbrev pub with_look : ℕ → Tally → Tally
with_look n t = record t { looks = t.looks + 1; serving = n }

-- one try more for a ticket, which it found to be n
abbrev pub with_try : ℕ → Tally → Tally
with_try n t = record t { tries = t.tries + 1; ticket = n }

-- one look more at how many numbers were given, which it found to be n
abbrev pub with_count : ℕ → Tally → Tally
with_count n t = record t { counts = t.counts + 1; looked = n }

-- one try more for a pass's number, where it found that n were given
abbrev pub with_take : ℕ → Tally → Tally
with_take n t = record t { takes = t.takes + 1; found = n }

-- a try that won: there was one look at the serving number and one try for a ticket, and both found the same number
abbrev pub IsWon : Tally → Tally → Type 0
IsWon old new = new ≡ with_try new.serving (with_look new.serving old)
