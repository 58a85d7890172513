use Rattle.mix_raster.proofs.Ranges.{draw_steps}
use Rattle.mix_raster.proofs.way.Way.lead.Goals as goal

-- the steps of a draw are valid
pub exchanges-swap-requires : goal.exchanges-swap-requires
exchanges-swap-requires c = record {
  steps = draw_steps c.args.draw.now _ c.requires.draw c.as_slice-steps.ensures.value;
}

pub find-requires-clause-steps : goal.find-requires-clause-steps
find-requires-clause-steps c =
    draw_steps c.args.draw.now _ c.requires.draw c.as_slice-steps.ensures.value

pub find-requires-2-clause-steps : goal.find-requires-2-clause-steps
find-requires-2-clause-steps c =
    draw_steps c.args.draw.now _ c.requires.draw c.as_slice-steps.ensures.value
