use Rattle.mix_raster.proofs.Ranges.{StepRanges, step_ranges}
use Rattle.mix_raster.proofs.axis.axis_of.Goals as goal

-- what is valid of a step is valid of its place
pub axis_down-requires-clause-place : goal.axis_down-requires-clause-place
axis_down-requires-clause-place c = (step_ranges c.args.step.now c.requires.step).place

pub axis_across-requires-clause-place : goal.axis_across-requires-clause-place
axis_across-requires-clause-place c = (step_ranges c.args.step.now c.requires.step).place

pub side_of_box-high-requires-clause-crops : goal.side_of_box-high-requires-clause-crops
side_of_box-high-requires-clause-crops c =
    let r : StepRanges c.args.step.now = step_ranges c.args.step.now c.requires.step in
    (r.ranges.top, r.ranges.bottom)
