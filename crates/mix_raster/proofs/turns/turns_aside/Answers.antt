use Rattle.std.proofs.Common.{arith}
use Rattle.std.proofs.lemmas.Bool.Decides.{nat_tests}
use Rattle.mix_raster.proofs.Ranges.{StepRanges, step_ranges}
use Rattle.mix_raster.proofs.turns.turns_aside.Goals as goal

-- there are four turns
pub returns-else-step-eq1 : goal.returns-else-step-eq1
returns-else-step-eq1 c =
    let r : StepRanges c.args.step.now = step_ranges c.args.step.now c.requires.step in
    grind (arith, nat_tests)
