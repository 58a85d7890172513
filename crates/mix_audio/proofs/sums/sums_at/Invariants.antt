use Rattle.std.proofs.Common.{ℕ, ◌≡◌, ◌<◌, pos, fold, take, length}
use Rattle.mix_model.specs.Sounds.{added}
use Rattle.mix_audio.specs.Sums.{sum_of}
use Rattle.mix_audio.proofs.sums.sums_at.Given as goal

-- the sums of the voices so far
abbrev pub invariant-loop-voice : goal.invariant-loop-voice
invariant-loop-voice l = record {
  tracks : length l.sums ≡ 6;
  value : (t : ℕ) → t < 6 →
      sum_of l.sums t ≡ fold (added t (pos l.place)) (pos 0) (take l.voice-index l.voices);
}
