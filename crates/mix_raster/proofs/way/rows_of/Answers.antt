use Rattle.mix_raster.proofs.Ranges.{draw_steps}
use Rattle.mix_raster.proofs.way.rows_of.Goals as goal

-- the steps of a draw are valid
pub exchanges-requires : goal.exchanges-requires
exchanges-requires c = record {
  steps = draw_steps c.args.draw.now _ c.requires.draw c.as_slice-steps.ensures.value;
}

pub span_of-requires : goal.span_of-requires
span_of-requires c = record {
  steps = draw_steps c.args.draw.now _ c.requires.draw c.as_slice-steps.ensures.value;
}
