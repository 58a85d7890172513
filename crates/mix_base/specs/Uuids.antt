-- The UUID that stands for a serial in answers and events.
use Rattle.std.specs.Prelude.{ℕ, List, ◌+◌, ◌^◌}
use Rattle.std.specs.Int.{to_be_bytes, w128}
use Rattle.uuid.specs.Text.{hyphenated_text, lower}

-- the text of the UUID of version 8 whose last twelve digits are the serial
abbrev pub uuid_of : ℕ → List ℕ
uuid_of serial = hyphenated_text lower (to_be_bytes w128 (2 ^ 79 + 2 ^ 63 + serial))
