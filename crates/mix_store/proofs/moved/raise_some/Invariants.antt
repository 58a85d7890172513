-- so many items are on top of what is left
use Rattle.std.proofs.Common.{◌≡◌, length}
use Rattle.mix_store.proofs.MoveLemmas.{turned}
use Rattle.mix_store.proofs.moved.raise_some.Given as goal

abbrev pub invariant-loop : goal.invariant-loop
invariant-loop l = record {
  all : l.items.items ≡ turned l.fn.items.items l.fn.at l.counter;
  count : length l.items.items ≡ length l.fn.items.items;
}
