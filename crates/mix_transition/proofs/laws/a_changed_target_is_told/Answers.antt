-- only setting another scene and forgetting the target change it
use Rattle.mix_transition.proofs.ToldLemmas.{setting_tells_target, frames_tell_target}
use Rattle.mix_transition.proofs.ToldLemmas.{forgetting_tells_target}
use Rattle.mix_transition.proofs.laws.a_changed_target_is_told.Goals as goal

pub returns-clause-setting : goal.returns-clause-setting
returns-clause-setting c = setting_tells_target

pub returns-clause-frames : goal.returns-clause-frames
returns-clause-frames c = frames_tell_target

pub returns-clause-forgetting : goal.returns-clause-forgetting
returns-clause-forgetting c = forgetting_tells_target
