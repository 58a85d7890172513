-- what is written, and what is left, are all
use Rattle.std.proofs.Common.{◌≡◌, ◌++◌, drop}
use Rattle.mix_script.specs.Escapes.{escaped}
use Rattle.mix_script.proofs.escaping.escape_bytes.Given as goal

abbrev pub invariant-loop-byte : goal.invariant-loop-byte
invariant-loop-byte l = escaped l.text ≡ l.written.items ++ escaped (drop l.byte-index l.text)
