-- the new row is the last, and what holds the others is the same
use Rattle.mix_model.specs.Edits.{scene_created, group_created}
use Rattle.mix_shape.specs.Created.{input_made}
use Rattle.mix_shape.proofs.WholeLemmas.{settled_keeps}
use Rattle.mix_shape.proofs.CreatedShape.{scene_created_shape, group_created_shape}
use Rattle.mix_shape.proofs.CreatedShape.{input_made_shape, wanted_place}
use Rattle.mix_shape.proofs.laws.new_sources_keep_the_shape.Goals as goal

pub returns-clause-scene : goal.returns-clause-scene
returns-clause-scene c = λ g shape name none marks begun.
    settled_keeps marks (scene_created name g) begun (scene_created_shape name g shape none)

pub returns-clause-group : goal.returns-clause-group
returns-clause-group c = λ g shape name parent spec place none marks begun.
    settled_keeps marks (group_created name parent spec g) begun
    (group_created_shape name parent spec g shape place none)

pub returns-clause-input : goal.returns-clause-input
returns-clause-input c = λ g shape name kind settings wanted input place none marks begun.
    settled_keeps marks (input_made name kind settings wanted g) begun
    (input_made_shape name kind settings wanted g shape input (wanted_place wanted place) none)
