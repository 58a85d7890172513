-- no sum over items grows
use Rattle.mix_model.specs.Edits.{item_removed, item_moved}
use Rattle.mix_shape.proofs.WholeLemmas.{settled_keeps}
use Rattle.mix_shape.proofs.ThinnerShape.{removed_shape, moved_shape}
use Rattle.mix_shape.proofs.laws.fewer_and_moved_items_keep_the_shape.Goals as goal

pub returns-clause-taken : goal.returns-clause-taken
returns-clause-taken c = λ g shape parent id marks begun.
    settled_keeps marks (item_removed parent id g) begun (removed_shape parent id g shape)

pub returns-clause-moved : goal.returns-clause-moved
returns-clause-moved c = λ g shape parent id index marks begun.
    settled_keeps marks (item_moved parent id index g) begun (moved_shape parent id index g shape)
