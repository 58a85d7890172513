use Rattle.std.proofs.Common.{take}
use Rattle.mix_fanout.specs.Keys.{LetGo, keys_at}
use Rattle.mix_fanout.proofs.store.release.Given as goal

-- what waits for the connection in the lists so far is let go
abbrev pub invariant-loop-lane : goal.invariant-loop-lane
invariant-loop-lane l = LetGo l.fn.store l.store (keys_at l.conn (take l.lane-index l.lanes))
