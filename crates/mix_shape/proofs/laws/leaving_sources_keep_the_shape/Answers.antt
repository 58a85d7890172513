-- nothing names it any more, and no other row gains a holder
use Rattle.mix_model.specs.Edits.{source_removed, next_destroyed}
use Rattle.mix_shape.proofs.WholeLemmas.{settled_keeps}
use Rattle.mix_shape.proofs.ThinnerShape.{source_removed_shape}
use Rattle.mix_shape.proofs.DestroyedShape.{next_destroyed_shape}
use Rattle.mix_shape.proofs.laws.leaving_sources_keep_the_shape.Goals as goal

pub returns-clause-removed : goal.returns-clause-removed
returns-clause-removed c = λ g shape x marks begun.
    settled_keeps marks (source_removed x g) begun (source_removed_shape x g shape)

pub returns-clause-destroyed : goal.returns-clause-destroyed
returns-clause-destroyed c = λ g shape marks begun.
    settled_keeps marks (next_destroyed g) begun (next_destroyed_shape g shape)
