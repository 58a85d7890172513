use Rattle.std.proofs.Common.{arith}
use Rattle.mix_fanout.proofs.InPlace.{mapped_more}
use Rattle.mix_audience.specs.Sides.{identified}
use Rattle.mix_audience.proofs.members.identify_each.Goals as goal

-- one more is done
pub loop-member-preserved : goal.loop-member-preserved
loop-member-preserved c = mapped_more (identified c.args.conn c.args.mask) c.args.members.now
    c.loop-member.members c.loop-member.member-index _ _ (omega arith) (omega arith)
    c.loop-member.invariant c.identify.ensures.state
