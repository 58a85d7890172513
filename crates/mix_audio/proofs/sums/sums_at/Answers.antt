use Rattle.std.proofs.Common.{◌<◌, ◌^◌, subst, sym, arith, ℤ, pos}
use Rattle.std.specs.Prelude.{unsigned_abs}
use Rattle.mix_audio.proofs.Shares.{sum_small}
use Rattle.mix_audio.proofs.sums.sums_at.Goals as goal

-- the sums of the voices so far leave room for one more
pub add_share-requires-clause-room : goal.add_share-requires-clause-room
add_share-requires-clause-room c = λ track up.
    let small = sum_small track (pos c.args.place) c.loop-voice.voice-index c.args.voices.now
    (pos 0) c.requires.voices in
    let P : ℤ → Type 0 = λ z. unsigned_abs z < 2 ^ 100 in
    subst P (sym (c.loop-voice.invariant.value track up)) (omega (arith, small))
