-- the first requests are copied, and room for all of them
use Rattle.std.proofs.Common.{◌≡◌, ◌≤◌, take, length, vec_capacity}
use Rattle.mix_model.proofs.ask.copy_asks.Given as goal

abbrev pub invariant-loop-ask : goal.invariant-loop-ask
invariant-loop-ask l = record {
  items : l.copies.items ≡ take l.ask-index l.asks;
  room : length l.asks ≤ vec_capacity l.copies;
}
