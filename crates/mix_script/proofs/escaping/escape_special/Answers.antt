-- a text with its escapes is in UTF-8
use Rattle.std.proofs.Common.{◌≡◌, ap, sym, ◌∙◌, subst, ℕ, List}
use Rattle.std.specs.Str.{IsUtf8}
use Rattle.mix_script.specs.Escapes.{escaped}
use Rattle.mix_script.proofs.EscapeLemmas.{IsUtf8-escaped}
use Rattle.mix_script.proofs.escaping.escape_special.Goals as goal

pub unreachable-requires : goal.unreachable-requires
unreachable-requires c =
    let is : escaped c.args.text.now ≡ c.in_ok-bytes.bytes.items = ap escaped (sym c.as_bytes.ensures.value) ∙ sym c.in_ok-bytes.ensures in
    cc (c.in-Err.ensures.succeeds (subst (λ (t : List ℕ). IsUtf8 t) is (IsUtf8-escaped c.args.text.now c.utf8.text)))
