use Rattle.std.proofs.Common.{arith}
use Rattle.mix_raster.proofs.Ranges.{Ranges, ranges}
use Rattle.mix_raster.proofs.axis.axis_across.Goals as goal

-- one of two in their ranges is in its range
pub returns-clause-valid : goal.returns-clause-valid
returns-clause-valid c =
    let r : Ranges c.args.place.now = ranges c.args.place.now c.requires.place in record {
      begun = omega arith;
      long = omega arith;
      cut = omega arith;
      scaled = omega arith;
    }
