use Rattle.mix_audio.proofs.LawLemmas.{trackless_is_unheard}
use Rattle.mix_audio.proofs.laws.trackless_voices_are_unheard.Goals as goal

pub returns : goal.returns
returns c = record { unheard = trackless_is_unheard }
