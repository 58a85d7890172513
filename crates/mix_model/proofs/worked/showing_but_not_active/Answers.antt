-- computed
use Rattle.std.proofs.Common.{refl}
use Rattle.mix_model.proofs.Rules.{every_rule}
use Rattle.mix_model.proofs.worked.showing_but_not_active.Goals as goal

pub returns-clause-told : goal.returns-clause-told
unfolding every_rule
returns-clause-told c = refl

pub returns-clause-active : goal.returns-clause-active
unfolding every_rule
returns-clause-active c = refl

pub returns-clause-showing : goal.returns-clause-showing
unfolding every_rule
returns-clause-showing c = refl
