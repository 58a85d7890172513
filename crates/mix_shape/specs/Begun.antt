-- The marks of when an action began.
use Rattle.std.specs.Prelude.{◌≡◌, ◌≤◌, ℕ, List}
use Rattle.mix_model.specs.State.{GraphState}
use Rattle.mix_model.specs.Marks.{Mark, marks_of}
use Rattle.mix_model.specs.Shape.{GraphShape}

-- the marks of when the action began are those of sources that had the shape, at a clock that was no
-- later
pub record BegunAs (marks : List Mark) (clock : ℕ) : Type 0 where
  pub old : GraphState
  pub shape : GraphShape old
  pub marks_are : marks ≡ marks_of old
  pub past : old.clock ≤ clock
