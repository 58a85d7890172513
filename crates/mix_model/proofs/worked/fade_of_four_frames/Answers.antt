-- computed
use Rattle.std.proofs.Common.{refl}
use Rattle.mix_model.proofs.Rules.{every_rule}
use Rattle.mix_model.proofs.worked.fade_of_four_frames.Goals as goal

pub returns-clause-begins : goal.returns-clause-begins
unfolding every_rule
returns-clause-begins c = refl

pub returns-clause-goes_on : goal.returns-clause-goes_on
unfolding every_rule
returns-clause-goes_on c = refl

pub returns-clause-ends : goal.returns-clause-ends
unfolding every_rule
returns-clause-ends c = refl

pub returns-clause-told : goal.returns-clause-told
unfolding every_rule
returns-clause-told c = refl

pub returns-clause-stays : goal.returns-clause-stays
unfolding every_rule
returns-clause-stays c = refl

pub returns-clause-forgotten : goal.returns-clause-forgotten
unfolding every_rule
returns-clause-forgotten c = refl
