-- a row has no more items than all rows together
use Rattle.std.proofs.Common.{◌∙◌, ◌≤◌, sym, ap, arith, option_copied, find, length}
use Rattle.std.proofs.lemmas.Grind.{common_steps}
use Rattle.mix_model.specs.Rows.{is_at}
use Rattle.mix_model.specs.Causes.{item_count}
use Rattle.mix_store.proofs.KeptLemmas.{found_items}
use Rattle.mix_store.proofs.sources.Sources.view.Goals as goal

pub overflow_cast-result : goal.overflow_cast-result
overflow_cast-result c =
    let few = found_items c.args.serial c.self.inside.rows.items c.in-Some.row.now
    (ap (find (is_at c.args.serial)) (sym c.as_slice.ensures.value) ∙ sym c.row_at.ensures
    ∙ ap option_copied c.in-Some.is) in
    let all : item_count c.self.inside.rows.items ≤ 2048 = c.self.invariant.items in
    let most : length c.in-Some.row.now.items ≤ 2048 = omega (arith, few, all) in
    rw c.as_slice-2.ensures.value (grind (arith, common_steps, most))
