-- no registry, channel or item has it
use Rattle.mix_model.proofs.RemovalLemmas.{removed_held}
use Rattle.mix_model.proofs.laws.removed_is_held_by_holds_and_frames.Goals as goal

pub returns : goal.returns
returns c = record { holders = removed_held }
