-- How a call answers a table of settings.
use Rattle.std.specs.Prelude.{◌≡◌, Result, Ok, Err}
use Rattle.mix_sources.specs.declared.fault.BadSetting.{BadSetting}
use Rattle.mix_sources.specs.declared.fault.SettingFault.{SettingFault}
use Rattle.mix_sources.specs.declared.fault.SettingFault.TheVariants.{Bad, NoMemory}

-- a fault is this one, or there was no memory
abbrev pub IsFault : SettingFault → BadSetting → Type 0
IsFault (Bad given) wanted = given ≡ wanted
IsFault NoMemory wanted = Unit {0}

-- a call answered the fault of the table, or found no memory
abbrev pub AnswersFault : {A : Type 0} → SettingFault → Result A BadSetting → Type 0
AnswersFault (Bad given) table = table ≡ Err given
AnswersFault NoMemory table = Unit {0}

-- a call answered what the table gives, or found no memory
abbrev pub Answers : {A : Type 0} → Result A SettingFault → Result A BadSetting → Type 0
Answers (Ok x) table = table ≡ Ok x
Answers (Err fault) table = AnswersFault fault table
