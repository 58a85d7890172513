-- What an engine is seen as: a start, limits, a journal, and the first action without room.
use Rattle.std.specs.Prelude.{◌≡◌, ℕ, ◌+◌, Bool, List, [], ◌∷◌, ◌++◌, ◌&&◌, length, nat_lt, nat_le}
use Rattle.std.specs.Prelude.{◌-◌, ◌^◌, min}
use Rattle.std.specs.Prelude.{Option, Some, None, sum_by, Result, Err, if◌then◌else◌}
use Rattle.mix_base.specs.declared.limits.Limits.{Limits}
use Rattle.mix_base.specs.declared.numbers.PassNo.{PassNo}
use Rattle.mix_model.specs.declared.action.Action.{Action}
use Rattle.mix_model.specs.declared.action.Entry.{Entry}
use Rattle.mix_script.specs.Lines.{line_text}
use Rattle.mix_engine.specs.declared.fault.ActFault.{ActFault}
use Rattle.mix_engine.specs.declared.fault.ActFault.TheVariants.{NoMemory, HistoryFull}
use Rattle.mix_engine.specs.declared.fault.Full.{Full}
use Rattle.mix_studio.specs.declared.setup.Setup.{Setup}
use Rattle.mix_engine.specs.Mixer.{Mixer, start_of}
use Rattle.mix_engine.specs.Answers.{state_after}
use Rattle.mix_engine.specs.Built.{is_built}
use Rattle.mix_engine.specs.Openings.{can_open}

-- an engine: the state that it opened with, its limits, the entries that it has done, and the first
-- action that found no room
pub record EngineModel : Type 0 where
  pub start : Mixer
  pub limits : Limits
  pub journal : List Entry
  pub full : Option Full

-- nothing was done yet
abbrev pub opened : Setup → EngineModel
opened setup = record {
  start = start_of setup.collection;
  limits = setup.limits;
  journal = [];
  full = None;
}

-- where a collection can't be opened there is no engine
abbrev pub engine_of : Setup → Option EngineModel
engine_of setup = if can_open setup.collection then Some (opened setup) else None

-- its state is the replay of its journal
abbrev pub present : EngineModel → Mixer
present e = state_after e.start e.journal

-- the bytes of the line of an action, with its line feed
abbrev pub line_bytes : Action → ℕ
line_bytes action = length (line_text action) + 1

-- the length of an action's line, as it is counted: 2^64 - 1 stands for all above it, too
abbrev pub IsLineOf : ℕ → Action → Type 0
IsLineOf line action = line ≡ min (line_bytes action) (2 ^ 64 - 1)

-- the bytes of the text of a journal: those of all its lines, each with its line feed
abbrev pub text_bytes : List Entry → ℕ
text_bytes journal = sum_by (λ e. line_bytes e.action) journal

-- the history has room for one more action: one more entry, and its line
abbrev pub has_room : EngineModel → Action → Bool
has_room e action = nat_lt (length e.journal) e.limits.turns
    && nat_le (text_bytes e.journal + line_bytes action) e.limits.bytes

abbrev pub with_entry : PassNo → Action → EngineModel → EngineModel
with_entry from action e = record e {
  journal = e.journal ++ record { from = from; action = action } ∷ [];
}

-- after an action that found room: one entry more, where it is built
abbrev pub acted : PassNo → Action → EngineModel → EngineModel
acted from action e = if is_built (present e) action then with_entry from action e else e

abbrev pub first_of : Option Full → Full → Option Full
first_of None full = Some full
first_of (Some before) full = Some before

-- what the history has, and what the action would add
abbrev pub full_at : EngineModel → Action → Full
full_at e action = record {
  turns = length e.journal;
  bytes = text_bytes e.journal;
  line = min (line_bytes action) (2 ^ 64 - 1);
}

-- an action that found no room is remembered, where it is the first
abbrev pub with_full : Action → EngineModel → EngineModel
with_full action e = record e { full = first_of e.full (full_at e action) }

-- the history was full
abbrev pub IsHistoryFull : {A : Type 0} → Result A ActFault → Type 0
IsHistoryFull (Err (HistoryFull turns bytes)) = Unit {0}
IsHistoryFull _ = ⊥

-- a history that is full is told with its two numbers
abbrev pub TellsNumbers : ActFault → EngineModel → Type 0
TellsNumbers NoMemory e = Unit {0}
TellsNumbers (HistoryFull turns bytes) e =
    (turns ≡ length e.journal) × (bytes ≡ text_bytes e.journal)

-- a refused action changes nothing, but the first one without room is remembered
abbrev pub refused : ActFault → Action → EngineModel → EngineModel
refused NoMemory action e = e
refused (HistoryFull turns bytes) action e = with_full action e
