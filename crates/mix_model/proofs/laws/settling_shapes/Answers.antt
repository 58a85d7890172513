-- point by point: the settling writes numbers of activity and the dying list
use Rattle.mix_model.proofs.EditShape.{sinces_before}
use Rattle.mix_model.proofs.SettledShape.{settled_shape}
use Rattle.mix_model.proofs.laws.settling_shapes.Goals as goal

pub returns : goal.returns
returns c = record {
  shape = λ old new before edited later.
      settled_shape old new edited (sinces_before old before new.clock later);
}
