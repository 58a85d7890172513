-- the item holds its child, and no row is deeper or heavier than may be
use Rattle.mix_model.specs.Edits.{item_added, item_duplicated}
use Rattle.mix_shape.proofs.WholeLemmas.{settled_keeps}
use Rattle.mix_shape.proofs.AddedShape.{item_added_shape, duplicated_shape}
use Rattle.mix_shape.proofs.laws.new_items_keep_the_shape.Goals as goal

pub returns-clause-added : goal.returns-clause-added
returns-clause-added c = λ g shape parent child spec place none marks begun.
    settled_keeps marks (item_added parent child spec g) begun
    (item_added_shape parent child spec g shape place none)

pub returns-clause-copied : goal.returns-clause-copied
returns-clause-copied c = λ g shape parent id to none marks begun.
    settled_keeps marks (item_duplicated parent id to g) begun
    (duplicated_shape parent id to g shape none)
