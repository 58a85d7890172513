-- Bytes that are the text of something.
use Rattle.std.specs.Prelude.{◌≡◌, ℕ, List, length}

-- the bytes of a hash, a salt or a challenge
abbrev pub Are32 : List ℕ → Type 0
Are32 bytes = length bytes ≡ 32
