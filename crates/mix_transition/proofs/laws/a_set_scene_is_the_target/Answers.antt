-- it was before, or a cut or a fade goes to it
use Rattle.mix_transition.proofs.SetLemmas.{set_is_target}
use Rattle.mix_transition.proofs.laws.a_set_scene_is_the_target.Goals as goal

pub returns : goal.returns
returns c = record { target = set_is_target }
