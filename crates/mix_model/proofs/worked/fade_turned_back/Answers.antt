-- computed
use Rattle.std.proofs.Common.{refl}
use Rattle.mix_model.proofs.Rules.{every_rule}
use Rattle.mix_model.proofs.worked.fade_turned_back.Goals as goal

pub returns-clause-turned : goal.returns-clause-turned
unfolding every_rule
returns-clause-turned c = refl

pub returns-clause-stays : goal.returns-clause-stays
unfolding every_rule
returns-clause-stays c = refl
