-- Which actions are built, in the state in which they stand.
use Rattle.std.specs.Prelude.{Bool, not}
use Rattle.mix_model.specs.declared.action.Action.{Action}
use Rattle.mix_engine.specs.Headings.{is_unbuilt}
use Rattle.mix_engine.specs.Mixer.{Mixer}
use Rattle.mix_engine.specs.Step.{outcome}

-- an action is built where its answer isn't that it isn't
abbrev pub is_built : Mixer → Action → Bool
is_built s action = not (is_unbuilt (outcome s action).heading)
