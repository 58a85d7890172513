-- computed
use Rattle.std.proofs.Common.{refl}
use Rattle.mix_model.proofs.Rules.{every_rule}
use Rattle.mix_model.proofs.worked_pictures.squares_multiply_red.Goals as goal

pub returns : goal.returns
unfolding every_rule
returns c = record { shown = refl }
