-- it is its own target
use Rattle.std.proofs.Common.{refl}
use Rattle.mix_transition.proofs.SetLemmas.{set_to_target}
use Rattle.mix_transition.proofs.laws.target_is_left_alone.Goals as goal

pub returns : goal.returns
returns c = record { same = λ p rate. set_to_target p rate _ refl }
