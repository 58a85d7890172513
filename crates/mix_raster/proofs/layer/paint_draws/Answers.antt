use Rattle.std.proofs.Common.{take}
use Rattle.mix_raster.proofs.Layers.{draws_opaque}
use Rattle.mix_raster.proofs.layer.paint_draws.Goals as goal

-- the draws so far leave the band opaque
pub paint_draw-requires-clause-opaque : goal.paint_draw-requires-clause-opaque
paint_draw-requires-clause-opaque c =
    draws_opaque c.args.tick c.args.band.top (c.args.band.width, c.args.band.rows)
    (take c.loop-draw.draw-index c.args.draws.now) c.args.canvas.now c.loop-draw.canvas
    c.requires.opaque c.loop-draw.invariant.painted
