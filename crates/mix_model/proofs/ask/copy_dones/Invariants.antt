-- the first results are copied, and room for all of them
use Rattle.std.proofs.Common.{◌≡◌, ◌≤◌, take, length, vec_capacity}
use Rattle.mix_model.proofs.ask.copy_dones.Given as goal

abbrev pub invariant-loop-done : goal.invariant-loop-done
invariant-loop-done l = record {
  items : l.copies.items ≡ take l.done-index l.dones;
  room : length l.dones ≤ vec_capacity l.copies;
}
