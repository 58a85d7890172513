use Rattle.std.proofs.Common.{take}
use Rattle.mix_fanout.specs.Keys.{LetGo}
use Rattle.mix_fanout.proofs.store.let_all_go.Given as goal

-- the keys so far are let go
abbrev pub invariant-loop-key : goal.invariant-loop-key
invariant-loop-key l = LetGo l.fn.store l.store (take l.key-index l.keys)
