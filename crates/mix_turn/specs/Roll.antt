-- What a roll answers: the entry's place, and where it is full how many it has.
use Rattle.std.specs.Prelude.{◌≡◌, ℕ, ◌<◌, ◌≤◌, List, length}
use Rattle.mix_turn.specs.declared.entered.Entered.{Entered}
use Rattle.mix_turn.specs.declared.turn.Turn.{Turn}
use Rattle.mix_turn.specs.declared.turn.Turn.TheVariants.{Done, Missed}
use Rattle.mix_turn.specs.declared.turn.Miss.TheVariants.{Full, NoMemory}

-- It takes `most` entries, answers each entry's place, and is full exactly from then on. Want of memory is free
abbrev pub roll_says : ℕ → List (Entered ℕ) → Turn ℕ → Type 0
roll_says most found (Done place) = (place ≡ length found) × (length found < most)
roll_says most found (Missed (Full turns bytes)) = (turns ≡ length found) × (bytes ≡ 0) × (most ≤ length found)
roll_says most found (Missed NoMemory) = length found < most
