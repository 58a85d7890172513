-- computed
use Rattle.std.proofs.Common.{refl}
use Rattle.mix_model.proofs.Rules.{every_rule}
use Rattle.mix_model.proofs.worked.destroyed_one_step_at_a_time.Goals as goal

pub returns-clause-scene : goal.returns-clause-scene
unfolding every_rule
returns-clause-scene c = refl

pub returns-clause-held : goal.returns-clause-held
unfolding every_rule
returns-clause-held c = refl

pub returns-clause-group : goal.returns-clause-group
unfolding every_rule
returns-clause-group c = refl

pub returns-clause-unheld : goal.returns-clause-unheld
unfolding every_rule
returns-clause-unheld c = refl

pub returns-clause-none : goal.returns-clause-none
unfolding every_rule
returns-clause-none c = refl
