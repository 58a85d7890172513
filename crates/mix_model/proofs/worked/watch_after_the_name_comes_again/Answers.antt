-- computed
use Rattle.std.proofs.Common.{refl}
use Rattle.mix_model.proofs.Rules.{every_rule}
use Rattle.mix_model.proofs.worked.watch_after_the_name_comes_again.Goals as goal

pub returns-clause-gone : goal.returns-clause-gone
unfolding every_rule
returns-clause-gone c = refl

pub returns-clause-new : goal.returns-clause-new
unfolding every_rule
returns-clause-new c = refl

pub returns-clause-item : goal.returns-clause-item
unfolding every_rule
returns-clause-item c = refl
