use Rattle.std.proofs.Common.{ℕ, ◌≡◌, ◌≤◌, ◌<◌, ◌+ℤ◌, pos, if◌then◌else◌}
use Rattle.mix_model.specs.Sounds.{has_track}
use Rattle.mix_audio.specs.Sums.{sum_of}
use Rattle.mix_audio.proofs.sums.add_share.Given as goal

-- the tracks so far have the share, and the others are as they were
abbrev pub invariant-loop-track : goal.invariant-loop-track
invariant-loop-track l = record {
  done : (t : ℕ) → t < l.track → sum_of l.sums t
      ≡ sum_of l.fn.sums t +ℤ (if has_track l.mask t then l.share else pos 0);
  left : (t : ℕ) → l.track ≤ t → sum_of l.sums t ≡ sum_of l.fn.sums t;
}
