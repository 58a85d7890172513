-- the closure gives a row's serial, and serials rise
use Rattle.std.proofs.Common.{◌≡◌, ◌∙◌, None, find, rules, subst}
use Rattle.std.proofs.lemmas.List.Sorted.{answers_always}
use Rattle.mix_model.specs.declared.row.Row.{Row}
use Rattle.mix_model.specs.Rows.{is_at}
use Rattle.mix_store.proofs.KeyLemmas.{search_at, search_failed}
use Rattle.mix_store.proofs.ChangeLemmas.{some_row}
use Rattle.mix_store.proofs.search.place_of.Goals as goal

pub returns-in-Ok-clause-at : goal.returns-in-Ok-clause-at
returns-in-Ok-clause-at c = λ d. search_at (λ (r : Row). r.serial) d c.args.rows.now
    c.serial.inside.0 c.in-Ok.at (c.in-Ok.ensures.position (λ (r : Row). r.serial)
    (answers_always _ _ _ (λ f a r g called. search rules))) ∙ c.serial.view_is

pub returns-in-Err-clause-none : goal.returns-in-Err-clause-none
returns-in-Err-clause-none c = subst (λ x. find (is_at x) c.args.rows.now ≡ None) c.serial.view_is
    (search_failed (λ (r : Row). r.serial) some_row 0 c.args.rows.now
    c.requires c.serial.inside.0 _ c.in-Err.ensures.bound
    (c.in-Err.ensures.position (λ (r : Row). r.serial)
    (answers_always _ _ _ (λ f a r g called. search rules))))
