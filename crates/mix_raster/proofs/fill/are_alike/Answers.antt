use Rattle.mix_raster.proofs.FillLemmas.{some_cell}
use Rattle.mix_raster.proofs.fill.are_alike.Goals as goal

-- squares have a side
pub nonzero_div-result : goal.nonzero_div-result
nonzero_div-result c =
    some_cell c.args.settings.now _ _ c.in-Checker.cell _ _ c.requires.valid c.in-Checker.is

pub nonzero_div-result-in-Checker : goal.nonzero_div-result-in-Checker
nonzero_div-result-in-Checker c =
    some_cell c.args.settings.now _ _ c.in-Checker.cell _ _ c.requires.valid c.in-Checker.is
