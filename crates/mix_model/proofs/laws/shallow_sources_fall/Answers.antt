-- one round less gives the same rank to what lies below
use Rattle.mix_model.proofs.FallLemmas.{shallow_falls}
use Rattle.mix_model.proofs.laws.shallow_sources_fall.Goals as goal

pub returns : goal.returns
returns c = record { falls = shallow_falls }
