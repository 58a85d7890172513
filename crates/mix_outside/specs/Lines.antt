-- Bytes seen as lines.
use Rattle.std.specs.Prelude.{ℕ, ◌+◌, Bool, List, [], ◌∷◌, ◌==◌, if◌then◌else◌, length}

-- lines that end in a line feed, and behind them nothing, or a line that is cut: bytes without one
pub data Lines : Type 0 where
  End : Lines
  Cut : List ℕ → Lines
  Whole : List ℕ → Lines → Lines

-- the byte that ends a line
abbrev pub is_feed : ℕ → Bool
is_feed byte = byte == 10

-- a byte in front of the first line
abbrev pub onto : ℕ → Lines → Lines
onto byte End = Cut (byte ∷ [])
onto byte (Cut line) = Cut (byte ∷ line)
onto byte (Whole line more) = Whole (byte ∷ line) more

-- the lines of some bytes: each without its line feed
abbrev pub lines_of : List ℕ → Lines
lines_of [] = End
lines_of (byte ∷ bytes) =
    if is_feed byte then Whole [] (lines_of bytes) else onto byte (lines_of bytes)

-- what stands behind the last line feed: no line, where there is no byte
abbrev pub last_line : List ℕ → Lines
last_line [] = End
last_line (byte ∷ line) = Cut (byte ∷ line)

-- how many bytes the first line takes, with its line feed where it has one
abbrev pub bytes_of_first : Lines → ℕ
bytes_of_first End = 0
bytes_of_first (Cut line) = length line
bytes_of_first (Whole line more) = length line + 1

-- bytes in front of the first line
abbrev pub put_before : List ℕ → Lines → Lines
put_before [] lines = lines
put_before (byte ∷ bytes) lines = onto byte (put_before bytes lines)
