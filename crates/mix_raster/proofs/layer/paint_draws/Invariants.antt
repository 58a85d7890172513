use Rattle.std.proofs.Common.{◌≡◌, ◌+◌, length, take}
use Rattle.mix_model.specs.Colours.{pixel_at}
use Rattle.mix_model.specs.Plans.{draws_over}
use Rattle.mix_raster.specs.Fills.{IsFilled}
use Rattle.mix_raster.proofs.layer.paint_draws.Given as goal

-- the draws so far
abbrev pub invariant-loop-draw : goal.invariant-loop-draw
invariant-loop-draw l = record {
  painted : IsFilled (l.band.width, l.band.rows) l.canvas (λ x y.
      draws_over l.tick x (l.band.top + y) (pixel_at l.band.width l.fn.canvas x y)
      (take l.draw-index l.draws));
  columns : length l.way.across.table.items ≡ length l.fn.way.across.table.items;
  rows : length l.way.down.table.items ≡ length l.fn.way.down.table.items;
}
