-- the rows so far, and then those that are left with their numbers, are all
use Rattle.std.proofs.Common.{◌≡◌, ◌++◌, take, drop, length}
use Rattle.mix_store.specs.Settling.{numbered}
use Rattle.mix_store.proofs.settle.write_numbers.Given as goal

abbrev pub invariant-loop-index : goal.invariant-loop-index
invariant-loop-index l = record {
  all : take l.index l.rows.items
      ++ numbered l.marks l.clock (drop l.index l.rows.items) (drop l.index l.active)
      ≡ numbered l.marks l.clock l.fn.rows.items l.active;
  count : length l.rows.items ≡ length l.fn.rows.items;
}
