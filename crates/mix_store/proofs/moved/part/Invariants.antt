-- of the items so far the others lie below, and those of this id on top of what is left
use Rattle.std.proofs.Common.{◌≡◌, length}
use Rattle.mix_model.specs.Rows.{has_id}
use Rattle.mix_store.proofs.MoveLemmas.{parted, failed}
use Rattle.mix_store.proofs.moved.part.Given as goal

abbrev pub invariant-loop : goal.invariant-loop
invariant-loop l = record {
  all : l.items.items ≡ parted (has_id l.fn.id) l.fn.items.items l.counter;
  others : l.others ≡ failed (has_id l.fn.id) l.fn.items.items l.counter;
  count : length l.items.items ≡ length l.fn.items.items;
}
