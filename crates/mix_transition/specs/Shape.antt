-- What holds of the program of every studio.
use Rattle.std.specs.Prelude.{IsTrue}
use Rattle.mix_model.specs.Sets.{is_distinct}
use Rattle.mix_model.specs.State.{ProgramState}
use Rattle.mix_model.specs.Lookups.{named_by}
use Rattle.mix_model.specs.Program.{channel_of}
use Rattle.mix_model.specs.Values.{is_duration}
use Rattle.mix_model.specs.WholeShape.{is_shown}

-- a fade hasn't reached its end, and goes from one scene to another one; and the duration that is
-- chosen is one that is allowed
pub record BusShape (p : ProgramState) : Type 0 where
  pub running : IsTrue (is_shown p.shown)
  pub ends : IsTrue (is_distinct (named_by (channel_of p.shown)))
  pub duration : IsTrue (is_duration p.duration)
