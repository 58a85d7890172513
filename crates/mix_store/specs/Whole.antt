-- What holds of each graph between its calls.
use Rattle.mix_model.specs.State.{GraphState}
use Rattle.mix_model.specs.Shape.{GraphShape}
use Rattle.mix_store.specs.Settling.{Tallied, IsTold}
use Rattle.mix_shape.specs.Begun.{BegunAs}

-- the sources have the shape of every mixer's sources; the flags and the changes are theirs, and the
-- marks are of an earlier time
pub record IsWhole (tally : Tallied) (g : GraphState) : Type 0 where
  pub told : IsTold tally g
  pub shape : GraphShape g
  pub begun : BegunAs tally.begun g.clock
