-- what dies so far, and then the rows that are left whose flag is on, is all; and there is room
use Rattle.std.proofs.Common.{◌≡◌, ◌++◌, drop, vec_capacity}
use Rattle.mix_store.specs.Settling.{flagged}
use Rattle.mix_store.proofs.settle.push_flagged.Given as goal

abbrev pub invariant-loop-index : goal.invariant-loop-index
invariant-loop-index l = record {
  all : l.dying.items ++ flagged (drop l.index l.rows) (drop l.index l.flags)
      ≡ l.fn.dying.items ++ flagged l.rows l.flags;
  room : vec_capacity l.dying ≡ vec_capacity l.fn.dying;
}
