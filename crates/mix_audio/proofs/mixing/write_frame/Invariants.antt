use Rattle.std.proofs.Common.{ℕ, ℤ, ◌<◌, ◌≢◌}
use Rattle.mix_model.specs.Sounds.{clamped}
use Rattle.mix_audio.specs.Sums.{sum_of}
use Rattle.mix_audio.specs.Frames.{HasFrame}
use Rattle.mix_audio.proofs.mixing.write_frame.Given as goal

-- the tracks so far have the frame, and all other frames are as they were
abbrev pub invariant-loop-track : goal.invariant-loop-track
invariant-loop-track l = record {
  here : (t : ℕ) → t < l.track → HasFrame l.block t l.frame (clamped (sum_of l.sums t));
  others : (t i : ℕ) (z : ℤ) → t < 6 → i < 1024 → i ≢ l.frame →
      HasFrame l.fn.block t i z → HasFrame l.block t i z;
}
