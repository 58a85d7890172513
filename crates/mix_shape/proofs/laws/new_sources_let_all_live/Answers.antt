-- a new source is in the registry, or an item shows it
use Rattle.mix_shape.proofs.BareLemmas.{scene_lets_live, group_lets_live, input_lets_live}
use Rattle.mix_shape.proofs.laws.new_sources_let_all_live.Goals as goal

pub returns-clause-scene : goal.returns-clause-scene
returns-clause-scene c = λ g shape name. scene_lets_live name g shape

pub returns-clause-group : goal.returns-clause-group
returns-clause-group c = λ g shape name parent spec there.
    group_lets_live name parent spec g shape there

pub returns-clause-input : goal.returns-clause-input
returns-clause-input c = λ g shape name kind settings wanted.
    input_lets_live name kind settings wanted g shape
