-- Channel 0 and the program.
use Rattle.mix_model.specs.Edits.{channel_set}
use Rattle.mix_model.specs.Program.{channel_of}
use Rattle.mix_model.specs.State.{StudioState}

-- channel 0 comes to name what the program shows
abbrev pub on_program : StudioState → StudioState
on_program s = record s { graph = channel_set 0 (channel_of s.program.shown) s.graph }
