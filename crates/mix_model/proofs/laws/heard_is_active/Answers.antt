-- channel 0 names what the program shows
use Rattle.mix_model.proofs.VoiceLemmas.{heard_is_active}
use Rattle.mix_model.proofs.laws.heard_is_active.Goals as goal

pub returns : goal.returns
returns c = record { heard = heard_is_active }
