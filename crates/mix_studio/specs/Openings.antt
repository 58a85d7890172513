-- Sources to which lines of a collection were added, and nothing else happened; what is told of a
-- refusal; and the studio that opens.
use Rattle.std.specs.Prelude.{◌≡◌, ◌<◌, ◌≤◌, ℕ, ◌+◌, Bool, true, [], ◌&&◌, ◌||◌, All, length}
use Rattle.std.specs.Prelude.{Option, Some, None, Result, Ok, Err}
use Rattle.std.specs.List.{list_any}
use Rattle.mix_model.specs.declared.collection.Collection.{Collection}
use Rattle.mix_model.specs.declared.fault.GraphFault.{GraphFault}
use Rattle.mix_model.specs.declared.fault.GraphFault.TheVariants.{NoMemory}
use Rattle.mix_model.specs.declared.row.Row.{Row}
use Rattle.mix_model.specs.Edits.{channel_set, preview_set}
use Rattle.mix_model.specs.Holders.{is_named, shows_some}
use Rattle.mix_model.specs.Lookups.{registry, row_passes}
use Rattle.mix_model.specs.Marks.{GraphModel}
use Rattle.mix_model.specs.Rows.{is_group, is_scene}
use Rattle.mix_model.specs.Sets.{has}
use Rattle.mix_model.specs.State.{GraphState, ProgramState, Rest, StudioState}

-- in the registry, or a group that an item shows: such a row is named
abbrev pub is_rooted : GraphState → Row → Bool
is_rooted g r =
    has r.serial (registry g) || (is_group r.kind && list_any (shows_some r.serial) g.rows)

-- a row that was never active, that the registry or an item holds, with a serial from 1 on, and whose
-- items were given the ids from 1 on
pub record IsFreshRow (g : GraphState) (r : Row) : Type 0 where
  pub unmarked : r.since ≡ 0
  pub rooted : is_rooted g r ≡ true
  pub counted : 0 < r.serial
  pub items : r.next_item ≡ length r.items + 1

-- such sources: no action began, the clock stands at 0, nothing is in flight, and serials were given
-- from 1 on
pub record IsFresh (m : GraphModel) : Type 0 where
  pub begun : m.begun ≡ []
  pub clock : m.present.clock ≡ 0
  pub frames : m.present.frames ≡ []
  pub rows : All (IsFreshRow m.present) m.present.rows
  pub serials : m.present.next_serial ≡ length m.present.rows + 1

-- what a line leaves
pub record IsLeft (done : GraphState) (m : GraphModel) : Type 0 where
  pub fresh : IsFresh m
  pub present : m.present ≡ done

-- the fault is the cause. Where there was no memory it says nothing
abbrev pub IsCause : Option GraphFault → GraphFault → Type 0
IsCause cause NoMemory = Unit {0}
IsCause cause fault = cause ≡ Some fault

-- a line or a name is refused by the first cause, and where there is none it isn't
abbrev pub Tells : {T : Type 0} → Option GraphFault → Result T GraphFault → Type 0
Tells cause (Ok value) = cause ≡ None
Tells cause (Err fault) = IsCause cause fault

-- the fault is the first refusal. Where there was no memory it says nothing
abbrev pub IsRefusal : {A : Type 0} → Result A GraphFault → GraphFault → Type 0
IsRefusal opening NoMemory = Unit {0}
IsRefusal opening fault = opening ≡ Err fault

-- a named row that is a scene
pub record IsScene (g : GraphState) (x : ℕ) : Type 0 where
  pub named : is_named g x ≡ true
  pub scene : row_passes g (λ r. is_scene r.kind) x ≡ true

-- the preview and then channel 0 are set
abbrev pub ends_set : Option ℕ → ℕ → GraphState → GraphState
ends_set preview program g = channel_set 0 (Some program, None) (preview_set preview g)

-- the program at rest on a scene, and how its next change goes
abbrev pub bus_of : Collection → ℕ → ProgramState
bus_of c program = record { shown = Rest program; fades = c.fade; duration = c.ms }

-- the studio that a collection opens has low numbers, and nobody holds or watches anything
pub record IsLow (s : StudioState) : Type 0 where
  pub unheld : s.graph.holds ≡ []
  pub unwatched : s.graph.watches ≡ []
  pub serials : s.graph.next_serial ≤ 4096
  pub items : All (λ r. r.next_item ≤ 4096) s.graph.rows
  pub holds : s.graph.next_hold ≤ 4096
  pub watches : s.graph.next_watch ≤ 4096
  pub clock : s.graph.clock ≤ 4096
  pub audio : s.audio_clock ≤ 4096
