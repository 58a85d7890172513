-- the row at the place is the one that is found
use Rattle.std.proofs.Common.{sym, ap, ◌∙◌, Some}
use Rattle.mix_model.specs.declared.row.Row.{Row}
use Rattle.mix_store.proofs.KeyLemmas.{key_found}
use Rattle.mix_store.proofs.search.row_at.Goals as goal

pub returns-in-Some : goal.returns-in-Some
returns-in-Some c =
    let row : Row = c.index-rows-at.result in
    ap Some c.index-rows-at.is ∙ sym (key_found (λ (r : Row). r.serial) row 0 c.args.rows.now
    c.requires c.args.serial c.in-Some.at c.in-Some.ensures.within (c.in-Some.ensures.at row))
