use Rattle.mix_raster.proofs.Ranges.{draw_parts}
use Rattle.mix_raster.proofs.fill.fill_plain.Goals as goal

-- the settings of a draw are valid
pub pixel_met-color-requires-clause-valid : goal.pixel_met-color-requires-clause-valid
pixel_met-color-requires-clause-valid c = (draw_parts c.args.draw.now c.requires.draw).valid
