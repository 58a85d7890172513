-- computed
use Rattle.std.proofs.Common.{refl}
use Rattle.mix_model.proofs.Rules.{every_rule}
use Rattle.mix_model.proofs.worked.two_items_of_one_source.Goals as goal

pub returns-clause-active : goal.returns-clause-active
unfolding every_rule
returns-clause-active c = refl

pub returns-clause-one : goal.returns-clause-one
unfolding every_rule
returns-clause-one c = refl

pub returns-clause-both : goal.returns-clause-both
unfolding every_rule
returns-clause-both c = refl
