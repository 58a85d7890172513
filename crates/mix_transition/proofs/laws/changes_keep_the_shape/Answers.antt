-- what is shown stays allowed, and the duration is left as it is
use Rattle.mix_transition.proofs.ShapeLemmas.{setting_keeps_shape, frames_keep_shape}
use Rattle.mix_transition.proofs.ShapeLemmas.{forgetting_keeps_shape, choosing_keeps_shape}
use Rattle.mix_transition.proofs.laws.changes_keep_the_shape.Goals as goal

pub returns-clause-setting : goal.returns-clause-setting
returns-clause-setting c = setting_keeps_shape

pub returns-clause-frames : goal.returns-clause-frames
returns-clause-frames c = frames_keep_shape

pub returns-clause-forgetting : goal.returns-clause-forgetting
returns-clause-forgetting c = forgetting_keeps_shape

pub returns-clause-choosing : goal.returns-clause-choosing
returns-clause-choosing c = choosing_keeps_shape
