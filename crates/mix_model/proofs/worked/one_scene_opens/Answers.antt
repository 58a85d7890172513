-- computed
use Rattle.std.proofs.Common.{refl}
use Rattle.mix_model.proofs.Rules.{every_rule}
use Rattle.mix_model.proofs.WorkedShape.{opened_studio, removed}
use Rattle.mix_model.proofs.worked.one_scene_opens.Goals as goal

pub returns-clause-opens : goal.returns-clause-opens
unfolding every_rule
returns-clause-opens c = refl

pub returns-clause-shape : goal.returns-clause-shape
returns-clause-shape c = opened_studio

pub returns-clause-removed : goal.returns-clause-removed
returns-clause-removed c = removed
