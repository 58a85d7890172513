-- What the reader of lines answers.
use Rattle.std.specs.Prelude.{◌≡◌, ℕ, ◌<◌, ◌≤◌, List, length}
use Rattle.mix_outside.specs.Lines.{Lines, Whole, last_line, bytes_of_first}
use Rattle.mix_outside.specs.declared.lines.Met.{Met}
use Rattle.mix_outside.specs.declared.lines.Met.TheVariants as mets

-- a line that is met takes no more bytes than there is room for, its line feed among them
abbrev pub FitsIn : Met → ℕ → List ℕ → Type 0
FitsIn mets.Whole room line = length line < room
FitsIn mets.Last room line = length line ≤ room
FitsIn mets.Past room line = Unit {0}
FitsIn mets.Failed room line = Unit {0}
FitsIn mets.NoMemory room line = Unit {0}

-- The line is the first of the lines that were left, and is taken from them; or it is what stood
-- behind the last line feed; or the first line takes more bytes than there is room for.
abbrev pub Meets : Met → ℕ → List ℕ → Lines → Lines → Type 0
Meets mets.Whole room line old new = old ≡ Whole line new
Meets mets.Last room line old new = old ≡ last_line line
Meets mets.Past room line old new = room < bytes_of_first old
Meets mets.Failed room line old new = Unit {0}
Meets mets.NoMemory room line old new = Unit {0}
