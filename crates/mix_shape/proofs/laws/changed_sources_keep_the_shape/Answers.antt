-- serials, kinds and items don't see it
use Rattle.mix_model.specs.Edits.{input_set, renamed}
use Rattle.mix_shape.proofs.WholeLemmas.{settled_keeps}
use Rattle.mix_shape.proofs.SetShape.{set_shape, renamed_shape}
use Rattle.mix_shape.proofs.laws.changed_sources_keep_the_shape.Goals as goal

pub returns-clause-set : goal.returns-clause-set
returns-clause-set c = λ g shape x settings sound input heard marks begun.
    settled_keeps marks (input_set x settings sound g) begun
    (set_shape x settings sound g shape input heard)

pub returns-clause-renamed : goal.returns-clause-renamed
returns-clause-renamed c = λ g shape x name free marks begun.
    settled_keeps marks (renamed x name g) begun (renamed_shape x name g shape free)
