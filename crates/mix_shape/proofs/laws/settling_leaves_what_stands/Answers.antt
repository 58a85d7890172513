-- no number is written, and nothing begins to die
use Rattle.mix_shape.proofs.FrameShape.{settles_still}
use Rattle.mix_shape.proofs.laws.settling_leaves_what_stands.Goals as goal

pub returns : goal.returns
returns c = record { unchanged = settles_still }
