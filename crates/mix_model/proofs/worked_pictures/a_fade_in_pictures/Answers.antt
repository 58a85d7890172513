-- computed
use Rattle.std.proofs.Common.{refl}
use Rattle.mix_model.proofs.Rules.{every_rule}
use Rattle.mix_model.proofs.worked_pictures.a_fade_in_pictures.Goals as goal

pub returns-clause-begins : goal.returns-clause-begins
unfolding every_rule
returns-clause-begins c = refl

pub returns-clause-one : goal.returns-clause-one
unfolding every_rule
returns-clause-one c = refl

pub returns-clause-two : goal.returns-clause-two
unfolding every_rule
returns-clause-two c = refl

pub returns-clause-three : goal.returns-clause-three
unfolding every_rule
returns-clause-three c = refl

pub returns-clause-ends : goal.returns-clause-ends
unfolding every_rule
returns-clause-ends c = refl
