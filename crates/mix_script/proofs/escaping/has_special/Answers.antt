-- a special byte is found exactly where one stands
use Rattle.std.proofs.Common.{◌∙◌}
use Rattle.mix_script.specs.Escapes.{is_special}
use Rattle.mix_script.proofs.FindLemmas.{found_any}
use Rattle.mix_script.proofs.escaping.has_special.Goals as goal

pub returns : goal.returns
returns c = c.is_some.ensures
    ∙ found_any is_special c.args.text.now c.memchr2.result c.memchr2.ensures
