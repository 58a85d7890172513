-- computed
use Rattle.std.proofs.Common.{refl}
use Rattle.mix_model.proofs.Rules.{every_rule}
use Rattle.mix_model.proofs.worked_pictures.one_tone_of_two_items.Goals as goal

pub returns-clause-high : goal.returns-clause-high
unfolding every_rule
returns-clause-high c = refl

pub returns-clause-low : goal.returns-clause-low
unfolding every_rule
returns-clause-low c = refl
