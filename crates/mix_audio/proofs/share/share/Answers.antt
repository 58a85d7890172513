use Rattle.std.proofs.Common.{◌≤◌, ◌∙◌, subst, sym, arith, ℤ, FitsSigned, w32, to_z-of_z}
use Rattle.std.specs.Prelude.{unsigned_abs}
use Rattle.mix_audio.proofs.Shares.{Ranges, ranges, sample_small}
use Rattle.mix_audio.proofs.share.share.Goals as goal

-- each value of a voice is in its range
pub sample-sample-requires : goal.sample-sample-requires
sample-sample-requires c = record { valid = (ranges c.args.voice.now c.requires.voice).valid }

pub scaled-requires-clause-sample : goal.scaled-requires-clause-sample
scaled-requires-clause-sample c =
    let fits : FitsSigned w32 c.sample-sample.result =
    record { sfits = c.sample-sample.type_inv } in
    let P : ℤ → Type 0 = λ z. unsigned_abs z ≤ 32767 in
    subst P (sym (to_z-of_z fits ∙ c.sample-sample.ensures.value))
    (sample_small c.args.voice.now.settings _ (ranges c.args.voice.now c.requires.voice).valid)

pub scaled-requires-clause-volume : goal.scaled-requires-clause-volume
scaled-requires-clause-volume c =
    let r : Ranges c.args.voice.now = ranges c.args.voice.now c.requires.voice in omega arith

pub scaled-requires-clause-weight : goal.scaled-requires-clause-weight
scaled-requires-clause-weight c =
    let r : Ranges c.args.voice.now = ranges c.args.voice.now c.requires.voice in omega arith

pub scaled-requires-clause-some : goal.scaled-requires-clause-some
scaled-requires-clause-some c =
    let r : Ranges c.args.voice.now = ranges c.args.voice.now c.requires.voice in omega arith
