-- the closure gives a mark's serial, and serials rise
use Rattle.std.proofs.Common.{◌≡◌, rules, sym, ap, ◌∙◌, Some, None, subst, get_or, false}
use Rattle.std.proofs.lemmas.List.Sorted.{answers_always}
use Rattle.mix_model.specs.Marks.{Mark, marked}
use Rattle.mix_store.proofs.KeyLemmas.{key_found, search_at, search_failed}
use Rattle.mix_store.proofs.settle.mark_of.Goals as goal

pub returns-in-Ok : goal.returns-in-Ok
returns-in-Ok c =
    let mark : Mark = c.index-marks-at.result in
    ap Some c.index-marks-at.is
    ∙ sym (subst (λ x. marked c.args.marks.now x ≡ Some (get_or c.args.marks.now c.in-Ok.at mark))
    c.serial.view_is (key_found (λ (m : Mark). m.serial) mark 0 c.args.marks.now
    c.requires c.serial.inside.0 c.in-Ok.at c.in-Ok.ensures.bound
    (search_at (λ (m : Mark). m.serial) mark c.args.marks.now c.serial.inside.0 c.in-Ok.at
    (c.in-Ok.ensures.position (λ (m : Mark). m.serial)
    (answers_always _ _ _ (λ f a r g called. search rules))))))

pub returns-in-Err : goal.returns-in-Err
returns-in-Err c = sym (subst (λ x. marked c.args.marks.now x ≡ None) c.serial.view_is
    (search_failed (λ (m : Mark). m.serial)
    (record { serial = 0; active = false; showing = false; since = 0 }) 0 c.args.marks.now
    c.requires c.serial.inside.0 _ c.in-Err.ensures.bound
    (c.in-Err.ensures.position (λ (m : Mark). m.serial)
    (answers_always _ _ _ (λ f a r g called. search rules)))))
