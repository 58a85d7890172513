-- computed
use Rattle.std.proofs.Common.{refl}
use Rattle.mix_model.proofs.Rules.{every_rule}
use Rattle.mix_model.proofs.worked_pictures.red_as_i420.Goals as goal

pub returns : goal.returns
unfolding every_rule
returns c = record { payload = refl }
