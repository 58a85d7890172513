-- the place is that of an item, and what stands there is small
use Rattle.std.proofs.Common.{ap, ◌∙◌}
use Rattle.mix_model.proofs.SetLemmas.{and_both, and_first, and_second}
use Rattle.mix_plan.proofs.StepLemmas.{is_small, view_small}
use Rattle.mix_plan.proofs.rows.step_of.Goals as goal

pub returns-clause-valid : goal.returns-clause-valid
returns-clause-valid g c =
    let small = ap is_small c.size-width.ensures.value
    ∙ view_small c.row.result c.args.canvas c.row.ensures.valid c.requires.canvas in
    and_both _ _ (and_both _ _ c.requires.place (and_first _ _ small)) (and_second _ _ small)
