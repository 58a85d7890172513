-- what is named is a named row of the sort that may be there
use Rattle.mix_model.specs.Edits.{channel_set, preview_set, clock_set}
use Rattle.mix_shape.proofs.WholeLemmas.{settled_keeps}
use Rattle.mix_shape.proofs.HoldShape.{channel_set_shape, preview_set_shape, clock_set_shape}
use Rattle.mix_shape.proofs.laws.channels_preview_and_clock_keep_the_shape.Goals as goal

pub returns-clause-channel : goal.returns-clause-channel
returns-clause-channel c = λ g shape number channel given there marks begun.
    settled_keeps marks (channel_set number channel g) begun
    (channel_set_shape number channel g shape given there)

pub returns-clause-preview : goal.returns-clause-preview
returns-clause-preview c = λ g shape to there scene marks begun.
    settled_keeps marks (preview_set to g) begun (preview_set_shape to g shape there scene)

pub returns-clause-clock : goal.returns-clause-clock
returns-clause-clock c = λ g shape clock marks begun.
    settled_keeps marks (clock_set clock g) begun (clock_set_shape clock g shape)
