use Rattle.mix_raster.proofs.Ranges.{draw_parts}
use Rattle.mix_raster.proofs.HidingLemmas.{all_hidden}
use Rattle.mix_raster.proofs.hiding.hides.Goals as goal

-- the settings of a draw are valid
pub is_opaque-requires : goal.is_opaque-requires
is_opaque-requires c = record { valid = (draw_parts c.args.draw.now c.requires.draw).valid }

-- opaque pixels on each one of the band
pub returns-then-spans_all : goal.returns-then-spans_all
returns-then-spans_all c = record {
  hides = λ opaque. all_hidden c.args.draw.now c.args.band c.in-Normal.is
      (c.spans_all.ensures.columns c.if-spans_all.true)
      (c.spans_all.ensures.rows c.if-spans_all.true) (c.is_opaque.ensures.opaque opaque);
}
