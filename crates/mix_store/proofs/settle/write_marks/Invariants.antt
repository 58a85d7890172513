-- the marks so far, and then those of the rows that are left, are all
use Rattle.std.proofs.Common.{◌≡◌, ◌++◌, drop, length, vec_capacity}
use Rattle.mix_store.specs.Settling.{marked_by}
use Rattle.mix_store.proofs.settle.write_marks.Given as goal

abbrev pub invariant-loop-index : goal.invariant-loop-index
invariant-loop-index l = record {
  all : l.marks.items ++ marked_by (drop l.index l.rows) (drop l.index l.active)
      (drop l.index l.showing) ≡ marked_by l.rows l.active l.showing;
  count : length l.marks.items ≡ l.index;
  room : vec_capacity l.marks ≡ vec_capacity l.fn.marks;
}
