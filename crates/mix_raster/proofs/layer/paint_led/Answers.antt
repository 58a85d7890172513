use Rattle.std.proofs.Common.{arith}
use Rattle.mix_raster.proofs.Layers.{band_painted}
use Rattle.mix_raster.proofs.layer.paint_led.Goals as goal

-- all rows that lead somewhere
pub returns : goal.returns
returns c = record {
  painted = band_painted c.args.tick c.loop-i.i c.args.draw.now c.args.way.now c.args.band
      c.args.canvas.now c.loop-i.canvas c.requires.way (omega arith) c.loop-i.invariant.painted;
}
