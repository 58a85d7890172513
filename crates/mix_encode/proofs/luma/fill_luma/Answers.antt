use Rattle.std.proofs.Common.{arith}
use Rattle.mix_model.specs.Encoding.{luma, pixel_in}
use Rattle.mix_encode.proofs.Planes.{row_inside, row_more}
use Rattle.mix_encode.proofs.luma.fill_luma.Goals as goal

-- one row more
pub loop-y-preserved : goal.loop-y-preserved
loop-y-preserved c =
    let picture = c.args.picture.now in
    let inside = row_inside picture.width picture.height c.loop-y.y (omega arith) in
    row_more (λ x y. luma (pixel_in picture x y)) picture.width c.loop-y.y _ c.loop-y.into
    c.fill_luma_row.new.into (omega (arith, inside)) c.fill_luma_row.ensures c.loop-y.invariant
