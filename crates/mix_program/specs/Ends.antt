-- How a run goes on and ends, over what its sink held before and holds now.
use Rattle.std.specs.Prelude.{◌≡◌, ◌⊎◌, ℕ, ◌+◌, List, ◌++◌, length, Option, Some, None, Result, Ok, Err}
use Rattle.std.specs.Prelude.{◌==◌, if◌then◌else◌}
use Rattle.mix_outside.specs.Bytes.{IsPrefix}
use Rattle.mix_outside.specs.declared.lines.Met.{Met}
use Rattle.mix_outside.specs.declared.lines.Met.TheVariants as mets
use Rattle.mix_model.specs.declared.action.Entry.{Entry}
use Rattle.mix_script.specs.declared.write_fault.WriteFault as fault
use Rattle.mix_script.specs.declared.write_fault.WriteFault.TheVariants as faults
use Rattle.mix_engine.specs.Engines.{EngineModel, text_bytes}
use Rattle.mix_program.specs.Output.{Written, before}
use Rattle.mix_program.specs.Run.{done, not_built, full}
use Rattle.mix_program.specs.declared.running.Finished.{Finished}
use Rattle.mix_program.specs.declared.running.Finished.TheVariants.{Done, Full, NotBuilt}
use Rattle.mix_program.specs.declared.running.Ended.{Ended}
use Rattle.mix_program.specs.declared.running.Ended.TheVariants.{Whole, ReadFault, WriteFault}
use Rattle.mix_program.specs.declared.running.Ended.TheVariants.{NoMemory}

-- of the lines that are to be written some are, and the rest is left
pub record Goes (old new : List ℕ) (all rest : Written) : Type 0 where
  pub piece : List ℕ
  pub held : new ≡ old ++ piece
  pub left : all ≡ before piece rest

-- a front of the lines is written
pub record Stops (old new : List ℕ) (all : Written) : Type 0 where
  pub front : List ℕ
  pub held : new ≡ old ++ front
  pub is_front : IsPrefix front all.lines

-- all lines are written, and the status is the run's
pub record Finishes (status : ℕ) (old new : List ℕ) (all : Written) : Type 0 where
  pub held : new ≡ old ++ all.lines
  pub told : all.status ≡ status

-- the status of a run that wrote all
abbrev pub status_of : Finished → ℕ
status_of Done = 0
status_of Full = 7
status_of NotBuilt = 9

abbrev pub Ends : Ended → List ℕ → List ℕ → Written → Type 0
Ends (Whole finished) old new all = Finishes (status_of finished) old new all
Ends ReadFault old new all = Stops old new all
Ends WriteFault old new all = Stops old new all
Ends NoMemory old new all = Stops old new all

-- Of what an action and the rest of a run are to write some is written, and the run goes on from
-- a journal; or the run ended.
abbrev pub Turned : Option Ended → List ℕ → List ℕ → ((List Entry → Written) → Written) →
    List Entry → Type 0
Turned None old new all after = (rest : List Entry → Written) → Goes old new (all rest) (rest after)
Turned (Some ended) old new all after = (rest : List Entry → Written) → Ends ended old new (all rest)

-- what is written where only a line without a line feed is left: nothing at the script's end
abbrev pub last_written : List ℕ → ℕ → Written
last_written line number = if length line == 0 then done else not_built number

-- how a run ends where no whole line that fits was met
abbrev pub EndsAt : Met → List ℕ → ℕ → Ended → List ℕ → List ℕ → Type 0
EndsAt mets.Whole line number ended old new = Unit {0}
EndsAt mets.Last line number ended old new = Ends ended old new (last_written line number)
EndsAt mets.Past line number ended old new = Ends ended old new full
EndsAt mets.Failed line number ended old new = (all : Written) → Ends ended old new all
EndsAt mets.NoMemory line number ended old new = (all : Written) → Ends ended old new all

-- where the run goes on, the engine has one entry more, which takes this many bytes
abbrev pub Follows : Option Ended → EngineModel → EngineModel → ℕ → Type 0
Follows None old new bytes = (new.start ≡ old.start) × (new.limits ≡ old.limits)
    × (length new.journal ≡ length old.journal + 1)
    × (text_bytes new.journal ≡ text_bytes old.journal + bytes)
Follows (Some ended) old new bytes = Unit {0}

-- how a run goes on behind the lines of an answer: a fault and want of memory end it
abbrev pub ended_by : Result (Unit {0}) fault.WriteFault → Option Ended
ended_by (Ok written) = None
ended_by (Err faults.Failed) = Some WriteFault
ended_by (Err faults.NoMemory) = Some NoMemory

-- how a run finished that wrote all its lines
abbrev pub Finishing : Finished → Ended → Type 0
Finishing finished (Whole f) = f ≡ finished
Finishing finished ReadFault = Unit {0}
Finishing finished WriteFault = Unit {0}
Finishing finished NoMemory = Unit {0}

-- the status of a run that ended
abbrev pub status_at : Ended → ℕ
status_at (Whole finished) = status_of finished
status_at ReadFault = 5
status_at WriteFault = 6
status_at NoMemory = 8

-- the statuses on which all lines are written, and those on which a front of them is
abbrev pub IsWhole : ℕ → Type 0
IsWhole status = (status ≡ 0) ⊎ ((status ≡ 7) ⊎ (status ≡ 9))

abbrev pub IsTorn : ℕ → Type 0
IsTorn status = (status ≡ 5) ⊎ ((status ≡ 6) ⊎ (status ≡ 8))

-- a status without an error in the words is one of these
abbrev pub IsStatus : ℕ → Type 0
IsStatus status = (status ≡ 2) ⊎ (IsWhole status ⊎ IsTorn status)
