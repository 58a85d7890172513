use Rattle.std.proofs.Common.{◌/◌, arith}
use Rattle.mix_model.specs.Encoding.{chroma_blue, chroma_red, square_colour}
use Rattle.mix_encode.proofs.Planes.{row_inside, row_more}
use Rattle.mix_encode.proofs.chroma.fill_chroma.Goals as goal

-- one row of squares more
pub loop-y-preserved : goal.loop-y-preserved
loop-y-preserved c =
    let picture = c.args.picture.now in
    let width = picture.width / 2 in
    let inside = row_inside width (picture.height / 2) c.loop-y.y (omega arith) in
    record {
      blue = row_more (λ x y. chroma_blue (square_colour picture x y)) width c.loop-y.y _
          c.loop-y.blue c.fill_chroma_row.new.blue (omega (arith, inside))
          c.fill_chroma_row.ensures.blue c.loop-y.invariant.blue;
      red = row_more (λ x y. chroma_red (square_colour picture x y)) width c.loop-y.y _
          c.loop-y.red c.fill_chroma_row.new.red (omega (arith, inside))
          c.fill_chroma_row.ensures.red c.loop-y.invariant.red;
    }
