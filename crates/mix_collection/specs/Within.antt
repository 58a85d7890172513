-- Lines of which no more than so many bytes are read.
use Rattle.std.specs.Prelude.{◌≡◌, ℕ, ◌+◌, ◌-◌, List, ◌++◌, length}
use Rattle.std.specs.Prelude.{nat_lt, if◌then◌else◌}
use Rattle.mix_outside.specs.Lines.{Lines, End, Cut, Whole, lines_of}
use Rattle.mix_collection.specs.declared.feed.Feed.{Feed}
use Rattle.mix_collection.specs.declared.feed.Next.{Next}
use Rattle.mix_collection.specs.declared.feed.Next.TheVariants as nexts

-- the lines as far as there is room for them: a line without room for all of it, its line feed among
-- it, is cut, and nothing stands behind it
abbrev pub within : ℕ → Lines → Lines
within room End = End
within room (Cut line) = Cut line
within room (Whole line more) =
    if nat_lt (length line) room then Whole line (within (room - (length line + 1)) more)
    else Cut line

-- the lines that are left to a reader with these bytes left in its source
abbrev pub lines_left : Feed → List ℕ → Lines
lines_left feed left = within feed.room (lines_of (feed.ahead ++ left))

-- a line that is cut stands first
abbrev pub IsCut : Lines → Type 0
IsCut End = ⊥
IsCut (Cut line) = Unit {0}
IsCut (Whole line more) = ⊥

-- what stood first of the lines that were left: a line, which is taken from them; or nothing; or a
-- line that is cut
abbrev pub Gives : Next → List ℕ → Lines → Lines → Type 0
Gives nexts.Line line old new = old ≡ Whole line new
Gives nexts.End line old new = old ≡ End
Gives nexts.Cut line old new = IsCut old
Gives nexts.ReadFault line old new = Unit {0}
Gives nexts.NoMemory line old new = Unit {0}
