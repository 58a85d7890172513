-- a mark that has the serial is the one that is found
use Rattle.std.proofs.Common.{sym, ap, ◌∙◌, Some, eqb-true}
use Rattle.mix_model.specs.Marks.{Mark}
use Rattle.mix_store.proofs.KeyLemmas.{key_found}
use Rattle.mix_store.proofs.settle.mark_near.Goals as goal

pub returns-then-is_mark_of : goal.returns-then-is_mark_of
returns-then-is_mark_of c =
    let mark : Mark = c.index-marks-at.result in
    ap Some c.index-marks-at.is ∙ sym (key_found (λ (m : Mark). m.serial) mark 0 c.args.marks.now
    c.requires c.args.serial c.args.at c.if-at-marks.true
    (ap (λ (m : Mark). m.serial) (sym c.index-marks-at.is)
    ∙ eqb-true mark.serial c.args.serial (sym c.is_mark_of.ensures ∙ c.if-is_mark_of.true)))
