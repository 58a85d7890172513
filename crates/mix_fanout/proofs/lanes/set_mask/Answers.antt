use Rattle.std.proofs.Common.{arith}
use Rattle.mix_fanout.specs.Keys.{masked_line}
use Rattle.mix_fanout.proofs.InPlace.{mapped_more}
use Rattle.mix_fanout.proofs.lanes.set_mask.Goals as goal

-- one more is done
pub loop-lane-preserved : goal.loop-lane-preserved
loop-lane-preserved c = mapped_more (masked_line c.args.conn c.args.mask) c.args.lanes.now
    c.loop-lane.lanes c.loop-lane.lane-index _ _ (omega arith) (omega arith) c.loop-lane.invariant
    c.set_mask.ensures.state
