-- each part of the list is empty exactly where its test fails
use Rattle.mix_model.proofs.HeldLemmas.{held_is_placed}
use Rattle.mix_model.proofs.laws.held_is_placed.Goals as goal

pub returns : goal.returns
returns c = record { placed = held_is_placed }
