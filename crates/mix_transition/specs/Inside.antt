-- The fields of a bus, as the state has them.
use Rattle.mix_model.specs.State.{ProgramState}
use Rattle.mix_transition.specs.declared.bus.ProgramBus.TheInside.{Inside}
use Rattle.mix_transition.specs.Seen.{shown_by}

-- what is shown, and how the next change goes
abbrev pub state_of : Inside → ProgramState
state_of bus = record {
  shown = shown_by bus.program;
  fades = bus.fades;
  duration = bus.duration;
}
