use Rattle.mix_collection.proofs.Defaults.{without_options}
use Rattle.mix_collection.proofs.laws.missing_options_are_those_of_a_new_item.Goals as goal

pub returns : goal.returns
returns c = record { value = without_options }
