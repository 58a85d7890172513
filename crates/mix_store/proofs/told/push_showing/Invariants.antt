-- the changes so far, and then those of the rows that are left, are all; and there is room
use Rattle.std.proofs.Common.{◌≡◌, ◌≤◌, ◌+◌, ◌++◌, drop, length, vec_capacity}
use Rattle.mix_model.specs.declared.change.Change.TheVariants.{Showing as ShowingNow}
use Rattle.mix_model.specs.Marks.{was_showing}
use Rattle.mix_store.specs.Settling.{told_by}
use Rattle.mix_store.proofs.told.push_showing.Given as goal

abbrev pub invariant-loop-index : goal.invariant-loop-index
invariant-loop-index l = record {
  all : l.changes.items ++ told_by ShowingNow (was_showing l.marks) (drop l.index l.rows)
      (drop l.index l.flags)
      ≡ l.fn.changes.items ++ told_by ShowingNow (was_showing l.marks) l.rows l.flags;
  count : length l.changes.items + length l.rows
      ≤ (length l.fn.changes.items + length l.rows) + l.index;
  room : vec_capacity l.changes ≡ vec_capacity l.fn.changes;
}
