-- the changes are those against the marks
use Rattle.std.proofs.Common.{arith}
use Rattle.std.proofs.lemmas.Grind.{common_steps}
use Rattle.mix_store.proofs.tally.Tally.tell.Goals as goal

pub returns-clause-told : goal.returns-clause-told
returns-clause-told c = record {
  count = grind (arith, common_steps);
  changes = rw c.as_slice.ensures.value at c.tell.ensures.items;
}
