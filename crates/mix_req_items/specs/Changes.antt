-- What requests make of one item.
use Rattle.std.specs.Prelude.{◌≡◌, ℕ, Bool, true, List, [], None, IsTrue}
use Rattle.mix_model.specs.declared.event.Event.{Event}
use Rattle.mix_model.specs.declared.notes.Notes.{Notes}
use Rattle.mix_model.specs.Edits.{item_enabled, item_locked, item_moved, item_placed, item_removed}
use Rattle.mix_model.specs.State.{GraphState, StudioState}
use Rattle.mix_model.specs.Values.{is_place}
use Rattle.mix_requests.specs.Effects.{Effect}
use Rattle.mix_requests.specs.Sources.{edited_alone}
use Rattle.mix_req_items.specs.declared.changing.Change.{Change}
use Rattle.mix_req_items.specs.declared.changing.Change.TheVariants as change

-- the edit of the sources, by the scene or group and the id of the item
abbrev pub changed_by : Change → ℕ → ℕ → GraphState → GraphState
changed_by (change.Enabled enabled) holder id = item_enabled holder id enabled
changed_by (change.Locked locked) holder id = item_locked holder id locked
changed_by (change.Moved index) holder id = item_moved holder id index
changed_by (change.Placed place blend) holder id = item_placed holder id place blend
changed_by change.Removed holder id = item_removed holder id

-- a place may be one
abbrev pub may_be : Change → Bool
may_be (change.Placed place blend) = is_place place
may_be _ = true

-- nothing changes, and nothing is answered or told
abbrev pub unchanged : StudioState → Notes → Effect
unchanged s notes = record { answer = None; events = []; studio = s; notes = notes }

-- an item is changed, and these events are told
abbrev pub changed : StudioState → Notes → (GraphState → GraphState) → List Event → Effect
changed s notes edit events = record {
  answer = None;
  events = events;
  studio = edited_alone edit s;
  notes = notes;
}
