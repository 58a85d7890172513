-- by induction on the frames, from the fade that begins at 0
use Rattle.mix_base.specs.Rates.{frames_of}
use Rattle.mix_model.specs.Program.{set_program, target_of}
use Rattle.mix_transition.proofs.FadeLemmas.{some_frames, goes_on, comes_to_rest, end_is_told_once}
use Rattle.mix_transition.proofs.SetLemmas.{fade_begins}
use Rattle.mix_transition.proofs.laws.a_fade_takes_its_frames.Goals as goal

pub returns-clause-goes_on : goal.returns-clause-goes_on
returns-clause-goes_on c = λ p rate y k out.
    goes_on (set_program p rate y).program (target_of p.shown) y (frames_of p.duration rate) k
    (fade_begins p rate y out.fades out.other)

pub returns-clause-rest : goal.returns-clause-rest
returns-clause-rest c = λ p rate y k out.
    comes_to_rest (set_program p rate y).program (target_of p.shown) y (frames_of p.duration rate) k
    (fade_begins p rate y out.fades out.other) (some_frames p.duration rate out.duration out.rate)

pub returns-clause-ended : goal.returns-clause-ended
returns-clause-ended c = λ p rate y k out.
    end_is_told_once (set_program p rate y).program (target_of p.shown) y
    (frames_of p.duration rate) k (fade_begins p rate y out.fades out.other)
    (some_frames p.duration rate out.duration out.rate)
