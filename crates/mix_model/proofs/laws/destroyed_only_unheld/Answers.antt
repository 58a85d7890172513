-- the dying list names exactly the rows without a holder
use Rattle.mix_model.proofs.DestroyLemmas.{destroyed_unheld}
use Rattle.mix_model.proofs.laws.destroyed_only_unheld.Goals as goal

pub returns : goal.returns
returns c = record { unheld = destroyed_unheld }
