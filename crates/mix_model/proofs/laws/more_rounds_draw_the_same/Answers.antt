-- by induction on the rounds
use Rattle.mix_model.proofs.DrawingLemmas.{drawing_stands}
use Rattle.mix_model.proofs.laws.more_rounds_draw_the_same.Goals as goal

pub returns : goal.returns
returns c = record { drawn = drawing_stands }
