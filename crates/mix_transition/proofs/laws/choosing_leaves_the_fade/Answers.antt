-- it writes two other fields
use Rattle.std.proofs.Common.{refl}
use Rattle.mix_model.specs.Program.{choose_transition}
use Rattle.mix_transition.proofs.laws.choosing_leaves_the_fade.Goals as goal

pub returns : goal.returns
unfolding choose_transition
returns c = record { shown = λ p fades ms. refl }
