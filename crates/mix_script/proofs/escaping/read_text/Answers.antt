-- a text without a special byte stands as it is; else the bytes are read first
use Rattle.std.proofs.Common.{◌≡◌, ◌∙◌, sym, false, Some}
use Rattle.std.specs.List.{list_any}
use Rattle.mix_script.specs.Escapes.{unescaped, is_special}
use Rattle.mix_script.proofs.EscapeLemmas.{unescaped-plain}
use Rattle.mix_script.proofs.ReadLemmas.{reads-fault, some-from-ok}
use Rattle.mix_script.proofs.escaping.read_text.Goals as goal

pub returns-then-not-has_special : goal.returns-then-not-has_special
returns-then-not-has_special c =
    let none : list_any is_special c.args.written.now ≡ false = sym c.has_special.ensures ∙ c.if-not-has_special.true in
    let is : unescaped c.args.written.now ≡ Some c.args.written.now = unescaped-plain c.args.written.now none in
    rw is c.copy_text.ensures

pub returns-in-Err : goal.returns-in-Err
returns-in-Err c = reads-fault (unescaped c.args.written.now) c.in-Err.fault c.in-Err.ensures

pub returns-in-Ok : goal.returns-in-Ok
returns-in-Ok c =
    let is : unescaped c.args.written.now ≡ Some c.in-Ok.bytes = some-from-ok (unescaped c.args.written.now) c.in-Ok.bytes c.in-Ok.ensures in
    rw is c.take_text.ensures
