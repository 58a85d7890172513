-- Where the bytes of a text stand.
use Rattle.std.specs.Prelude.{ℕ, List}
use Rattle.mix_base.specs.declared.text.Place.{Place}
use Rattle.mix_base.specs.declared.text.Place.TheVariants.{Here, Block}

-- the bytes are the same, wherever they stand
abbrev pub bytes_at : Place → List ℕ
bytes_at (Here text) = text.bytes
bytes_at (Block text) = text
