-- The settling at the end of an action: what begins to die, what became active, and what is told. It
-- compares the state before the action with what the action's edit left, and nothing between.
use Rattle.std.specs.Prelude.{ℕ, Bool, List, [], ◌∷◌, ◌++◌, ◌&&◌, not, map, filter}
use Rattle.std.specs.Prelude.{flat_map, if◌then◌else◌}
use Rattle.std.specs.Option.{option_map_or}
use Rattle.mix_model.specs.declared.row.Row.{Row}
use Rattle.mix_model.specs.declared.change.Change.{Change}
use Rattle.mix_model.specs.declared.change.Change.TheVariants.{Active as ActiveNow}
use Rattle.mix_model.specs.declared.change.Change.TheVariants.{Showing as ShowingNow}
use Rattle.mix_model.specs.Sets.{has, agree}
use Rattle.mix_model.specs.Rows.{is_input, serials_of}
use Rattle.mix_model.specs.State.{GraphState}
use Rattle.mix_model.specs.Lookups.{row_of}
use Rattle.mix_model.specs.Holders.{is_held}
use Rattle.mix_model.specs.Walks.{is_active, is_showing}

-- the rows without a holder that don't die yet, by rising serial
unfoldable pub newly_dying : GraphState → List ℕ
newly_dying g = filter (λ x. not (is_held g x) && not (has x g.dying)) (serials_of g.rows)

-- the row's number before: a row that wasn't there has 0
abbrev pub since_before : GraphState → ℕ → ℕ
since_before old x = option_map_or (λ r. r.since) (row_of old x) 0

-- a row that is active and wasn't gets the clock as its number, and every other row keeps its own
unfoldable pub with_since : GraphState → GraphState → Row → Row
with_since old new row = record row {
  since = if is_active new row.serial && not (is_active old row.serial) then new.clock
      else since_before old row.serial;
}

-- what an edit leaves, settled against what stood before the action: rows that lost their last holder
-- go to the end of the dying list
unfoldable pub settle : GraphState → GraphState → GraphState
settle old new = record new {
  rows = map (with_since old new) new.rows;
  dying = new.dying ++ newly_dying new;
}

-- a change of one row, where its test differs
abbrev pub change_if : (ℕ → Bool → Change) → Bool → Bool → ℕ → List Change
change_if made was now x = if agree was now then [] else made x now ∷ []

-- a row that wasn't there counts as neither active nor showing before
abbrev pub active_changes : GraphState → GraphState → List Row → List Change
active_changes old new rows =
    flat_map
    (λ r. change_if ActiveNow (is_active old r.serial) (is_active new r.serial) r.serial) rows

abbrev pub showing_changes : GraphState → GraphState → List Row → List Change
showing_changes old new rows = flat_map
    (λ r. change_if ShowingNow (is_showing old r.serial) (is_showing new r.serial) r.serial) rows

-- the changes of these rows: those of activity by rising serial, and then those of showing
unfoldable pub changes_of : GraphState → GraphState → List Row → List Change
changes_of old new rows = active_changes old new rows ++ showing_changes old new rows

-- the changes of all rows
abbrev pub changes : GraphState → GraphState → List Change
changes old new = changes_of old new new.rows

-- the changes that are told: those of inputs
abbrev pub told_changes : GraphState → GraphState → List Change
told_changes old new = changes_of old new (filter (λ r. is_input r.kind) new.rows)
