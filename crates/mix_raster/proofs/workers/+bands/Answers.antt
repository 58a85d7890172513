use Rattle.std.proofs.Common.{◌≡◌, ◌++◌, length, arith}
use Rattle.mix_raster.specs.Fills.{IsPainted}
use Rattle.mix_raster.proofs.Bands.{on_both, ready_lower, both_painted}
use Rattle.mix_raster.proofs.workers.+bands.Goals as goal

-- the lower of the two bands is ready as the whole is
pub paint_bands-paint_both-requires-clause-lower :
    goal.paint_bands-paint_both-requires-clause-lower
paint_bands-paint_both-requires-clause-lower g t c κs within =
    ready_lower c.args.shot.now c.args.tick c.rows_for.result c.args.band c.split.result.0
    c.split.result.1 c.split_at_mut-above.result.0.now c.split_at_mut-above.result.1.now
    c.args.rgba.now c.rows_for.ensures.within c.split.ensures.upper
    c.split.ensures.lower c.split_at_mut-above.ensures.front_len c.requires.ready
    c.split_at_mut-above.ensures.value

-- and both painted are the whole
pub paint_bands-returns : goal.paint_bands-returns
paint_bands-returns g t c =
    let shot = c.args.shot.now in
    let tick = c.args.tick in
    let above = c.paint_both.new.above in
    let below = c.paint_both.new.below in
    let same : length above ≡ length c.split_at_mut-above.result.0.now = omega arith in record {
      painted = on_both {P = IsPainted shot tick c.split.result.0 above}
          {Q = IsPainted shot tick c.split.result.1 below}
          {S = IsPainted shot tick c.args.band (above ++ below)} c.paint_both.result
          (both_painted shot tick c.rows_for.result c.args.band c.split.result.0
          c.split.result.1 c.split_at_mut-above.result.0.now
          c.split_at_mut-above.result.1.now c.args.rgba.now c.rows_for.ensures.within
          c.split.ensures.upper c.split.ensures.lower
          c.split_at_mut-above.ensures.front_len above below same) c.paint_both.ensures.upper
          c.paint_both.ensures.lower;
    }
