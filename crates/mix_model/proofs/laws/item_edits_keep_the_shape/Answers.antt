-- neither serials nor kinds, children and ids of items see the change
use Rattle.mix_model.proofs.EditShape.{enabled_shape, locked_shape, placed_shape}
use Rattle.mix_model.proofs.laws.item_edits_keep_the_shape.Goals as goal

pub returns-clause-enabling : goal.returns-clause-enabling
returns-clause-enabling c = λ g shape parent id enabled. enabled_shape parent id enabled g shape

pub returns-clause-locking : goal.returns-clause-locking
returns-clause-locking c = λ g shape parent id locked. locked_shape parent id locked g shape

pub returns-clause-placing : goal.returns-clause-placing
returns-clause-placing c =
    λ g shape parent id place blend valid. placed_shape parent id place blend valid g shape
