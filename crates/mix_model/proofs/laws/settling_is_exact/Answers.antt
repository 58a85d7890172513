-- the longer list has what died before, and the rows that nothing holds
use Rattle.mix_model.proofs.DyingLemmas.{settled_dying}
use Rattle.mix_model.proofs.laws.settling_is_exact.Goals as goal

pub returns : goal.returns
returns c = record { dying = settled_dying }
