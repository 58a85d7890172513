-- each point computes
use Rattle.mix_shape.proofs.WholeLemmas.{empty_shape}
use Rattle.mix_shape.proofs.laws.no_sources_have_the_shape.Goals as goal

pub returns : goal.returns
returns c = record { empty = empty_shape }
