-- The words of a command.
use Rattle.std.specs.Prelude.{ℕ, Bool, false, List, [], ◌∷◌, length, codes, ◌==◌, ◌&&◌, bytes_eq}

-- `replay` and three further words: the collection, the script, and the record
abbrev pub is_replay : List (List ℕ) → Bool
is_replay [] = false
is_replay (word ∷ words) = bytes_eq word (codes "replay") && (length words == 3)
