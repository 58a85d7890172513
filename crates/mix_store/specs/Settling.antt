-- The settling by flags: what the code writes beside each row.
use Rattle.std.specs.Prelude.{ℕ, Bool, List, [], ◌∷◌, ◌&&◌, not, if◌then◌else◌, ◌≡◌, ◌≤◌, length, ◌++◌, ◌+◌}
use Rattle.mix_model.specs.declared.change.Change.{Change}
use Rattle.mix_model.specs.Settle.{change_if}
use Rattle.mix_model.specs.declared.row.Row.{Row}
use Rattle.std.specs.Prelude.{map, IsTrue}
use Rattle.mix_model.specs.Sets.{has, rises_above}
use Rattle.mix_model.specs.State.{GraphState}
use Rattle.mix_model.specs.Holders.{is_held}
use Rattle.mix_model.specs.Marks.{Mark, was_active, since_marked, row_settled, changes_by}

-- the number that a row gets: the clock where it became active, else what it was
abbrev pub since_by : List Mark → ℕ → ℕ → Bool → ℕ
since_by marks clock x active =
    if active && not (was_active marks x) then clock else since_marked marks x

-- each row with its number, by the flags of activity
abbrev pub numbered : List Mark → ℕ → List Row → List Bool → List Row
numbered marks clock [] flags = []
numbered marks clock (row ∷ rows) [] = row ∷ rows
numbered marks clock (row ∷ rows) (flag ∷ flags) =
    record row { since = since_by marks clock row.serial flag } ∷ numbered marks clock rows flags

-- the rows with their numbers, by what is active
abbrev pub with_numbers : List Mark → GraphState → GraphState
with_numbers marks g = record g { rows = map (row_settled marks g) g.rows }

-- marks by rising serial
abbrev pub MarksRise : List Mark → Type 0
MarksRise marks = IsTrue (rises_above 0 (map (λ m. m.serial) marks))

-- nothing holds x, and it doesn't die yet
unfoldable pub begins_to_die : GraphState → ℕ → Bool
begins_to_die g x = not (is_held g x) && not (has x g.dying)

-- the serials whose flag is on
abbrev pub flagged : List Row → List Bool → List ℕ
flagged [] flags = []
flagged (row ∷ rows) [] = []
flagged (row ∷ rows) (flag ∷ flags) =
    if flag then row.serial ∷ flagged rows flags else flagged rows flags

-- the marks of the rows, by the flags of activity and of showing
abbrev pub marked_by : List Row → List Bool → List Bool → List Mark
marked_by [] active showing = []
marked_by (row ∷ rows) [] showing = []
marked_by (row ∷ rows) (a ∷ active) [] = []
marked_by (row ∷ rows) (a ∷ active) (s ∷ showing) = record {
  serial = row.serial;
  active = a;
  showing = s;
  since = row.since;
} ∷ marked_by rows active showing

-- the changes of rows, by the flags of what holds now
abbrev pub told_by :
    (ℕ → Bool → Change) → (ℕ → Bool) → List Row → List Bool → List Change
told_by made was [] flags = []
told_by made was (row ∷ rows) [] = []
told_by made was (row ∷ rows) (flag ∷ flags) =
    change_if made (was row.serial) flag row.serial ++ told_by made was rows flags

-- what is kept of when an action began: the marks, what has changed since, and for how many rows
-- there are flags and room
pub record Tallied : Type 0 where
  pub begun : List Mark
  pub changes : List Change
  pub count : ℕ

abbrev pub no_tally : Tallied
no_tally = record { begun = []; changes = []; count = 0 }

-- as many flags of both sorts, room for a mark of each row, and for both its changes
pub record Roomy (active showing marks changes : ℕ) : Type 0 where
  pub each : active ≡ showing
  pub mark_room : active ≤ marks
  pub change_room : active + active ≤ changes

-- there are flags and room for each row, and the changes are those since the marks
pub record IsTold (tally : Tallied) (g : GraphState) : Type 0 where
  pub count : tally.count ≡ length g.rows
  pub changes : tally.changes ≡ changes_by tally.begun g g.rows
