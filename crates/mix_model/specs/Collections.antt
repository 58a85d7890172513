-- Which collections a studio can open with.
use Rattle.std.specs.Prelude.{Bool, true, false, Result, Ok, Err, IsTrue}
use Rattle.mix_model.specs.declared.fault.GraphFault.{GraphFault}
use Rattle.mix_model.specs.declared.collection.Collection.{Collection}
use Rattle.mix_model.specs.State.{StudioState}
use Rattle.mix_model.specs.Opening.{opening_of}
use Rattle.mix_model.specs.Fitting.{IsFitting}

abbrev pub opens : Result StudioState GraphFault → Bool
opens (Ok studio) = true
opens (Err cause) = false

-- a collection that a studio can open with: its values are in their ranges, no channel is set twice,
-- and no line is refused
pub record IsCollection (c : Collection) : Type 0 where
  pub fits : IsFitting c
  pub opening : IsTrue (opens (opening_of c))
