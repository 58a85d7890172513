-- What the definition of a block promises.
use Rattle.std.proofs.Common.{◌≡◌, ℕ, ◌+◌, ◌*◌, ◌/◌, ◌%◌, ◌^◌, ◌∙◌, sym, ap, subst, arith, refl}
use Rattle.std.proofs.Common.{List, [], ◌∷◌, ◌++◌, length, fold, cond, nat_eq, ℤ, pos, ◌+ℤ◌}
use Rattle.std.proofs.Math.IntN.{+ℤ_idr}
use Rattle.std.proofs.Math.Nat.{zero-div}
use Rattle.std.proofs.lemmas.List.Sums.{fold-append}
use Rattle.mix_model.specs.declared.voice.Voice.{Voice}
use Rattle.mix_model.specs.declared.picture.Block.{Block}
use Rattle.mix_model.specs.Sounds.{clamped, share, added, track_sample, mixed}
use Rattle.mix_audio.specs.Frames.{HasFrame}
use Rattle.mix_audio.specs.Laws.{FramesAreHeard, NobodyIsSilence, TracklessIsUnheard}
use Rattle.mix_audio.proofs.Blocks.{mixed_is, each_sample}
use Rattle.mix_audio.proofs.Heard.{length-tracks, tracks_frame}

length-mixed : (voices : List Voice) (number : ℕ) → length (mixed voices number).tracks ≡ 12288
unfolding mixed
length-mixed voices number =
    length-tracks (λ t i. track_sample voices t (pos (1024 * number + i))) 1024 6 0

pub frames_are_heard : FramesAreHeard
unfolding mixed
frames_are_heard voices number track frame up below =
    let heard : ℕ → ℕ → ℤ = λ t i. track_sample voices t (pos (1024 * number + i)) in
    let counted : 0 + track ≡ track = omega arith in
    let both = tracks_frame heard 1024 6 0 track frame up below in
    record {
      left = both.left ∙ ap (λ t. heard t frame) counted;
      right = both.right ∙ ap (λ t. heard t frame) counted;
    }

pub nobody_is_silence : NobodyIsSilence
nobody_is_silence number =
    each_sample (λ z. z ≡ pos 0) (λ t i. track_sample [] t (pos (1024 * number + i)))
    (mixed [] number).tracks (length-mixed [] number) (frames_are_heard [] number)
    (λ t i up below. refl)

-- a voice that is in no track leaves a sum
added_nothing : (track : ℕ) (place sum : ℤ) (voice : Voice) → voice.sound.tracks ≡ 0 →
    added track place sum voice ≡ sum
added_nothing track place sum voice none =
    let part : ℕ → ℤ =
    λ quotient. cond (nat_eq (quotient % 2) 1) (share place voice) (pos 0) in
    ap (λ mask. sum +ℤ part (mask / 2 ^ track)) none
    ∙ ap (λ quotient. sum +ℤ part quotient) (zero-div (2 ^ track))
    ∙ +ℤ_idr sum

sum_without : (track : ℕ) (place : ℤ) (before after : List Voice) (voice : Voice) →
    voice.sound.tracks ≡ 0 → fold (added track place) (pos 0) (before ++ voice ∷ after)
    ≡ fold (added track place) (pos 0) (before ++ after)
sum_without track place before after voice none =
    let sum : ℤ = fold (added track place) (pos 0) before in
    fold-append (added track place) (pos 0) before (voice ∷ after)
    ∙ ap (λ z. fold (added track place) z after) (added_nothing track place sum voice none)
    ∙ sym (fold-append (added track place) (pos 0) before after)

pub trackless_is_unheard : TracklessIsUnheard
trackless_is_unheard before after voice number none =
    let made : List ℤ → Block = λ tracks. record { tracks = tracks } in
    let rest : List Voice = before ++ after in
    ap made (mixed_is (before ++ voice ∷ after) number (mixed rest number).tracks
    (length-mixed rest number) (λ t i up below.
    let Has : ℤ → Type 0 = λ sum. HasFrame (mixed rest number).tracks t i (clamped sum) in
    subst Has (sym (sum_without t (pos (1024 * number + i)) before after voice none))
    (frames_are_heard rest number t i up below)))
