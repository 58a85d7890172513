-- the rows are those of which it is known
use Rattle.std.proofs.Common.{ap, ◌∙◌}
use Rattle.mix_test_pictures.specs.Small.{are_fine}
use Rattle.mix_test_pictures.proofs.SmallLemmas.{rows_fine}
use Rattle.mix_test_pictures.proofs.small.build.Goals as goal

pub invariant_of-result : goal.invariant_of-result
invariant_of-result c =
    record { fine = ap are_fine c.in_ok-rows.ensures ∙ rows_fine c.in_ok-name.name }
