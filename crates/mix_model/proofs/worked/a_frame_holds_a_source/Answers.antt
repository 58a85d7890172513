-- computed
use Rattle.std.proofs.Common.{refl}
use Rattle.mix_model.proofs.Rules.{every_rule}
use Rattle.mix_model.proofs.worked.a_frame_holds_a_source.Goals as goal

pub returns-clause-held : goal.returns-clause-held
unfolding every_rule
returns-clause-held c = refl

pub returns-clause-unnamed : goal.returns-clause-unnamed
unfolding every_rule
returns-clause-unnamed c = refl

pub returns-clause-released : goal.returns-clause-released
unfolding every_rule
returns-clause-released c = refl
