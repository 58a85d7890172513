use Rattle.mix_audio.proofs.LawLemmas.{nobody_is_silence}
use Rattle.mix_audio.proofs.laws.nobody_is_silence.Goals as goal

pub returns : goal.returns
returns c = record { silence = nobody_is_silence }
