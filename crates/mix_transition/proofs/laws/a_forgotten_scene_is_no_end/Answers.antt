-- the other end isn't it, since the ends differ
use Rattle.mix_transition.proofs.SetLemmas.{forgotten_is_no_end, others_stay}
use Rattle.mix_transition.proofs.laws.a_forgotten_scene_is_no_end.Goals as goal

pub returns-clause-gone : goal.returns-clause-gone
returns-clause-gone c = λ p y other shape. forgotten_is_no_end p y other shape.ends

pub returns-clause-others : goal.returns-clause-others
returns-clause-others c = others_stay
