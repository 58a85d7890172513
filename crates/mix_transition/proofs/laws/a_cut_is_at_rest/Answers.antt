-- without a fade
use Rattle.mix_transition.proofs.SetLemmas.{cut_at_once}
use Rattle.mix_transition.proofs.laws.a_cut_is_at_rest.Goals as goal

pub returns : goal.returns
returns c = record { rest = cut_at_once }
