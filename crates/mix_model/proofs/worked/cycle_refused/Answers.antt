-- computed
use Rattle.std.proofs.Common.{refl}
use Rattle.mix_model.proofs.Rules.{every_rule}
use Rattle.mix_model.proofs.worked.cycle_refused.Goals as goal

pub returns-clause-early : goal.returns-clause-early
unfolding every_rule
returns-clause-early c = refl

pub returns-clause-late : goal.returns-clause-late
unfolding every_rule
returns-clause-late c = refl

pub returns-clause-input : goal.returns-clause-input
unfolding every_rule
returns-clause-input c = refl
