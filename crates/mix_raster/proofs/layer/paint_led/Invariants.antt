use Rattle.std.proofs.Common.{◌+◌}
use Rattle.std.specs.Prelude.{IfSome}
use Rattle.mix_model.specs.Plans.{draw_over}
use Rattle.mix_raster.specs.Ways.{places_of, IsShown}
use Rattle.mix_raster.proofs.Layers.{AreRowsPainted}
use Rattle.mix_raster.proofs.layer.paint_led.Given as goal

-- the rows so far are painted, and the row of pixels shows what the last one did
abbrev pub invariant-loop-i : goal.invariant-loop-i
invariant-loop-i l = record {
  painted : AreRowsPainted l.band.width l.way.down.first l.i
      (λ x j below. draw_over l.tick x (l.band.top + j) below l.draw) l.fn.canvas l.canvas;
  shown : IfSome l.shown (IsShown l.draw l.tick l.way.swap (places_of l.way.across) l.row);
}
