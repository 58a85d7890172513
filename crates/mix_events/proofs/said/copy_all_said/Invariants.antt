-- the first messages are copied, and room for all of them
use Rattle.std.proofs.Common.{◌≡◌, ◌≤◌, take, length, vec_capacity}
use Rattle.mix_events.proofs.said.copy_all_said.Given as goal

abbrev pub invariant-loop-said : goal.invariant-loop-said
invariant-loop-said l = record {
  items : l.copies.items ≡ take l.said-index l.all_said;
  room : length l.all_said ≤ vec_capacity l.copies;
}
