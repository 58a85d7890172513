-- rows and registry stay
use Rattle.mix_model.specs.Edits.{hold_made, hold_released, watch_made, watch_dropped}
use Rattle.mix_model.specs.Edits.{frame_held, frame_released, let_go}
use Rattle.mix_shape.proofs.WholeLemmas.{settled_keeps}
use Rattle.mix_shape.proofs.HoldShape.{hold_made_shape, hold_released_shape, watch_made_shape}
use Rattle.mix_shape.proofs.HoldShape.{let_go_shape, watch_dropped_shape}
use Rattle.mix_shape.proofs.FrameShape.{frame_held_shape, frame_released_shape}
use Rattle.mix_shape.proofs.laws.holds_keep_the_shape.Goals as goal

pub returns-clause-held : goal.returns-clause-held
returns-clause-held c = λ g shape x none marks begun.
    settled_keeps marks (hold_made x g) begun (hold_made_shape x g shape none)

pub returns-clause-released : goal.returns-clause-released
returns-clause-released c = λ g shape id marks begun.
    settled_keeps marks (hold_released id g) begun (hold_released_shape id g shape)

pub returns-clause-watched : goal.returns-clause-watched
returns-clause-watched c = λ g shape x none marks begun.
    settled_keeps marks (watch_made x g) begun (watch_made_shape x g shape none)

pub returns-clause-dropped : goal.returns-clause-dropped
returns-clause-dropped c = λ g shape id marks begun.
    settled_keeps marks (watch_dropped id g) begun (watch_dropped_shape id g shape)

pub returns-clause-let_go : goal.returns-clause-let_go
returns-clause-let_go c = λ g shape holds watches marks begun.
    settled_keeps marks (let_go holds watches g) begun (let_go_shape holds watches g shape)

pub returns-clause-taken : goal.returns-clause-taken
returns-clause-taken c = λ g shape number none fresh marks begun.
    settled_keeps marks (frame_held number g) begun (frame_held_shape number g shape none fresh)

pub returns-clause-ended : goal.returns-clause-ended
returns-clause-ended c = λ g shape number marks begun.
    settled_keeps marks (frame_released number g) begun (frame_released_shape number g shape)
