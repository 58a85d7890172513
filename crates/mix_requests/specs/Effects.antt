-- What a request that isn't refused does. The line of a request is its effect, or the status that
-- refuses it.
use Rattle.std.specs.Prelude.{List, [], Option, Some}
use Rattle.mix_base.specs.declared.json.Json.{Json}
use Rattle.mix_model.specs.declared.event.Event.{Event}
use Rattle.mix_model.specs.declared.notes.Notes.{Notes}
use Rattle.mix_model.specs.State.{StudioState}

-- the answer, the events in their order, and the studio and the notes that it leaves. The sources are
-- settled; the events of the settling, with which each action ends, come after these
pub record Effect : Type 0 where
  pub answer : Option Json
  pub events : List Event
  pub studio : StudioState
  pub notes : Notes

-- a request that only asks
abbrev pub only_asks : StudioState → Notes → Json → Effect
only_asks s notes answer = record {
  answer = Some answer;
  events = [];
  studio = s;
  notes = notes;
}
