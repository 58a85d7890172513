-- by induction on the rounds
use Rattle.mix_model.proofs.RankLemmas.{rank_stands, weight_stands}
use Rattle.mix_model.proofs.laws.more_rounds_change_nothing.Goals as goal

pub returns-clause-ranks : goal.returns-clause-ranks
returns-clause-ranks c = rank_stands

pub returns-clause-weights : goal.returns-clause-weights
returns-clause-weights c = weight_stands
