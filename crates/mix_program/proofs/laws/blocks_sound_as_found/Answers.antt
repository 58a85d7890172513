use Rattle.mix_program.proofs.Sounding.{answers_sound, lines_sound}
use Rattle.mix_program.proofs.laws.blocks_sound_as_found.Goals as goal

pub returns : goal.returns
returns c = record { answers = answers_sound; lines = lines_sound }
