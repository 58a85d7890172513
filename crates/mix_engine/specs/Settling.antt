-- The events of the settling that ends an action.
use Rattle.std.specs.Prelude.{List, map}
use Rattle.mix_model.specs.declared.change.Change.{Change}
use Rattle.mix_model.specs.declared.change.Change.TheVariants.{Active, Showing}
use Rattle.mix_model.specs.declared.event.Event.{Event}
use Rattle.mix_model.specs.declared.event.Event.TheVariants as event
use Rattle.mix_model.specs.State.{GraphState}
use Rattle.mix_model.specs.Settle.{told_changes}
use Rattle.mix_requests.specs.Named.{name_at}

-- the event of a change
abbrev pub change_event : GraphState → Change → Event
change_event g (Active x now) = event.InputActiveStateChanged (name_at g x) x now
change_event g (Showing x now) = event.InputShowStateChanged (name_at g x) x now

-- the events of the changes of inputs: those of activity, and then those of showing, each by rising
-- serial
abbrev pub settling_events : GraphState → GraphState → List Event
settling_events old new = map (change_event new) (told_changes old new)
