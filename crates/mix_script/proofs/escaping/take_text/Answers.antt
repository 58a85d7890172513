-- the bytes of a string are in UTF-8
use Rattle.std.specs.Prelude.{string_bytes}
use Rattle.std.proofs.lemmas.Str.{IsUtf8-string_bytes}
use Rattle.mix_script.proofs.ReadLemmas.{taken-text}
use Rattle.mix_script.proofs.escaping.take_text.Goals as goal

pub returns-in-Ok : goal.returns-in-Ok
returns-in-Ok c =
    taken-text c.args.bytes (string_bytes c.in-Ok.text) c.in_ok-from_string-in-Ok.field-0
    (IsUtf8-string_bytes c.in-Ok.text) (cc c.in-Ok.ensures.ok) c.in_ok-from_string-in-Ok.ensures.value
