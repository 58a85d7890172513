use Rattle.mix_audio.proofs.LawLemmas.{frames_are_heard}
use Rattle.mix_audio.proofs.laws.frames_are_heard.Goals as goal

pub returns : goal.returns
returns c = record { heard = frames_are_heard }
