-- The events of a change of the program.
use Rattle.std.specs.Prelude.{ℕ, Bool, List, [], ◌∷◌, ◌++◌, ◌&&◌, not, if◌then◌else◌}
use Rattle.mix_model.specs.declared.event.Event.{Event}
use Rattle.mix_model.specs.declared.event.Event.TheVariants as event
use Rattle.mix_model.specs.declared.words.Transition.{Transition}
use Rattle.mix_model.specs.declared.words.Transition.TheVariants.{Cut, Fade}
use Rattle.mix_model.specs.State.{GraphState}
use Rattle.mix_model.specs.Program.{BusChanged}
use Rattle.mix_requests.specs.Named.{name_at}

abbrev pub event_if : Bool → Event → List Event
event_if happens e = if happens then e ∷ [] else []

-- how the program changes
abbrev pub transition_of : Bool → Transition
transition_of fades = if fades then Fade else Cut

-- a fade that ran has ended; a transition began; the program has a new target; and a cut is over at
-- once. The target is a scene of these sources
unfoldable pub change_events : GraphState → Bool → ℕ → BusChanged → List Event
change_events g fades target change =
    event_if change.ended (event.SceneTransitionEnded Fade)
    ++ (event_if change.started (event.SceneTransitionStarted (transition_of fades))
    ++ (event_if change.target (event.CurrentProgramSceneChanged (name_at g target) target)
    ++ event_if (change.started && not fades) (event.SceneTransitionEnded Cut)))
