use Rattle.std.proofs.Common.{arith}
use Rattle.mix_fanout.proofs.Counts.{held_next, let_go_both, times_more}
use Rattle.mix_fanout.proofs.store.let_all_go.Goals as goal

-- the next key is still held
pub let_go-requires : goal.let_go-requires
let_go-requires c = held_next _ c.loop-key.store c.args.keys.now c.loop-key.key-index _
    (omega arith) c.requires c.loop-key.invariant

-- one more is let go
pub loop-key-preserved : goal.loop-key-preserved
loop-key-preserved c = let_go_both _ c.loop-key.store _ _ _ _
    (λ k. times_more k c.args.keys.now c.loop-key.key-index _ (omega arith)) c.loop-key.invariant
    c.let_go.ensures.state
