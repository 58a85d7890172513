-- What comes of moving bytes onto a line that was begun.
use Rattle.std.specs.Prelude.{◌≡◌, ℕ, ◌<◌, ◌≤◌, List, ◌++◌, length}
use Rattle.mix_outside.specs.Lines.{Whole, lines_of, bytes_of_first, put_before}
use Rattle.mix_outside.specs.declared.lines.Run.{Run}
use Rattle.mix_outside.specs.declared.lines.Run.TheVariants as runs

-- Bytes go from what stands ahead onto the line, whatever comes behind them: up to a line feed,
-- which goes with them; or all; or they are too many.
abbrev pub Moves : Run → ℕ → List ℕ → List ℕ → List ℕ → List ℕ → Type 0
Moves runs.Whole room old new begun line = (rest : List ℕ) →
    put_before begun (lines_of (old ++ rest)) ≡ Whole line (lines_of (new ++ rest))
Moves runs.Open room old new begun line = (rest : List ℕ) →
    put_before begun (lines_of (old ++ rest)) ≡ put_before line (lines_of (new ++ rest))
Moves runs.Past room old new begun line = (rest : List ℕ) →
    room < bytes_of_first (put_before begun (lines_of (old ++ rest)))
Moves runs.NoMemory room old new begun line = Unit {0}

-- the line stays within the room, and one that goes on has grown
abbrev pub Grows : Run → ℕ → List ℕ → List ℕ → Type 0
Grows runs.Whole room begun line = length line < room
Grows runs.Open room begun line = (length line ≤ room) × (length begun < length line)
Grows runs.Past room begun line = Unit {0}
Grows runs.NoMemory room begun line = Unit {0}
