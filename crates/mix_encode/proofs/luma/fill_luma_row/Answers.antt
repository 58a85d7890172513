use Rattle.std.proofs.Common.{◌≡◌, length, arith}
use Rattle.std.proofs.lemmas.List.FromFn.{fill_by_all}
use Rattle.mix_model.specs.Encoding.{luma, pixel_in}
use Rattle.mix_encode.proofs.luma.fill_luma_row.Goals as goal

-- all pixels of the row
pub returns : goal.returns
returns c =
    let width = c.args.picture.now.width in
    let long : length c.loop-x.into ≡ width = omega arith in
    fill_by_all (λ x. luma (pixel_in c.args.picture.now x c.args.y)) c.loop-x.into width 0 long
    (λ k below. c.loop-x.invariant k (omega arith))
