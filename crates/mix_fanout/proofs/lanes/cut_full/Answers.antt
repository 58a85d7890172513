use Rattle.std.proofs.Common.{arith}
use Rattle.mix_fanout.specs.Keys.{cut_line}
use Rattle.mix_fanout.proofs.InPlace.{mapped_more}
use Rattle.mix_fanout.proofs.lanes.cut_full.Goals as goal

-- one more is done
pub loop-lane-preserved : goal.loop-lane-preserved
loop-lane-preserved c = mapped_more (cut_line c.args.limit c.args.but) c.args.lanes.now
    c.loop-lane.lanes c.loop-lane.lane-index _ _ (omega arith) (omega arith) c.loop-lane.invariant
    c.cut_full.ensures.state
