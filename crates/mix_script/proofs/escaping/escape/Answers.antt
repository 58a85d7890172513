-- a text without a special byte is written as it is
use Rattle.std.proofs.Common.{◌≡◌, sym, ◌∙◌, false, ap}
use Rattle.std.specs.List.{list_any}
use Rattle.mix_script.specs.Escapes.{escaped, is_special}
use Rattle.mix_script.proofs.EscapeLemmas.{escaped-plain}
use Rattle.mix_script.proofs.escaping.escape.Goals as goal

pub returns-else-has_special : goal.returns-else-has_special
returns-else-has_special c =
    let none : list_any is_special c.args.text.now ≡ false =
    ap (list_any is_special) (sym c.bytes.ensures.value) ∙ sym c.has_special.ensures
    ∙ c.if-has_special.false in
    record { value = rw (escaped-plain c.args.text.now none) c.share.ensures.value }
