-- What a graph keeps of the state in which an action began, and the settling against that.
use Rattle.std.specs.Prelude.{ℕ, Bool, false, List, ◌++◌, ◌==◌, ◌&&◌, not, map, flat_map}
use Rattle.std.specs.Prelude.{find, Option, if◌then◌else◌}
use Rattle.std.specs.Option.{option_map_or}
use Rattle.mix_model.specs.declared.row.Row.{Row}
use Rattle.mix_model.specs.declared.change.Change.{Change}
use Rattle.mix_model.specs.declared.change.Change.TheVariants.{Active as ActiveNow}
use Rattle.mix_model.specs.declared.change.Change.TheVariants.{Showing as ShowingNow}
use Rattle.mix_model.specs.State.{GraphState}
use Rattle.mix_model.specs.Walks.{is_active, is_showing}
use Rattle.mix_model.specs.Settle.{newly_dying, change_if}

-- what is kept of a row: its activity, its showing, and its number
pub record Mark : Type 0 where
  pub serial : ℕ
  pub active : Bool
  pub showing : Bool
  pub since : ℕ

-- the mark of a row
abbrev pub mark_of : GraphState → Row → Mark
mark_of g row = record {
  serial = row.serial;
  active = is_active g row.serial;
  showing = is_showing g row.serial;
  since = row.since;
}

abbrev pub marks_of : GraphState → List Mark
marks_of g = map (mark_of g) g.rows

-- the mark of this serial
abbrev pub marked : List Mark → ℕ → Option Mark
marked marks x = find (λ m. m.serial == x) marks

-- a row without a mark wasn't there: it was neither active nor showing, and has the number 0
abbrev pub was_active : List Mark → ℕ → Bool
was_active marks x = option_map_or (λ m. m.active) (marked marks x) false

abbrev pub was_showing : List Mark → ℕ → Bool
was_showing marks x = option_map_or (λ m. m.showing) (marked marks x) false

abbrev pub since_marked : List Mark → ℕ → ℕ
since_marked marks x = option_map_or (λ m. m.since) (marked marks x) 0

-- a row that is active and wasn't gets the clock as its number, and every other row keeps its own
unfoldable pub row_settled : List Mark → GraphState → Row → Row
row_settled marks new row = record row {
  since = if is_active new row.serial && not (was_active marks row.serial) then new.clock
      else since_marked marks row.serial;
}

-- what an edit leaves, settled against the marks
unfoldable pub settled_by : List Mark → GraphState → GraphState
settled_by marks new = record new {
  rows = map (row_settled marks new) new.rows;
  dying = new.dying ++ newly_dying new;
}

-- the changes of these rows against the marks: those of activity, and then those of showing
abbrev pub changes_by : List Mark → GraphState → List Row → List Change
changes_by marks new rows =
    flat_map
    (λ r. change_if ActiveNow (was_active marks r.serial) (is_active new r.serial) r.serial)
    rows
    ++ flat_map
    (λ r. change_if ShowingNow (was_showing marks r.serial) (is_showing new r.serial) r.serial)
    rows

-- what contracts see of a graph: the marks of when the action began, and what stands now
pub record GraphModel : Type 0 where
  pub begun : List Mark
  pub present : GraphState

-- an action begins
unfoldable pub actions_begun : GraphModel → GraphModel
actions_begun m = record m { begun = marks_of m.present }

-- each call that edits leaves its edit, settled against the marks
unfoldable pub edited : (GraphState → GraphState) → GraphModel → GraphModel
edited edit m = record m { present = settled_by m.begun (edit m.present) }
