-- the rows so far, and then those that are left without those items, are all
use Rattle.std.proofs.Common.{◌≡◌, ◌++◌, take, drop, map, length}
use Rattle.mix_model.specs.Items.{without_child}
use Rattle.mix_store.proofs.removed.take_users.Given as goal

abbrev pub invariant-loop-index : goal.invariant-loop-index
invariant-loop-index l = record {
  all : take l.index l.rows.items ++ map (without_child l.fn.serial) (drop l.index l.rows.items)
      ≡ map (without_child l.fn.serial) l.fn.rows.items;
  count : length l.rows.items ≡ length l.fn.rows.items;
}
