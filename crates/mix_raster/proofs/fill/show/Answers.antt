use Rattle.mix_raster.proofs.Ranges.{draw_parts}
use Rattle.mix_raster.proofs.fill.show.Goals as goal

-- the settings of a draw are valid
pub are_alike-requires : goal.are_alike-requires
are_alike-requires c = record { valid = (draw_parts c.args.draw.now c.requires.draw).valid }
