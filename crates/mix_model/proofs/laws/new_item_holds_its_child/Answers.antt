-- one row's list of items is longer by one
use Rattle.mix_model.proofs.AddLemmas.{added_held}
use Rattle.mix_model.proofs.laws.new_item_holds_its_child.Goals as goal

pub returns : goal.returns
returns c = record { held = added_held }
