-- One frame is written, and the others stay.
use Rattle.std.proofs.Common.{◌≡◌, ◌≢◌, ℕ, ◌+◌, ◌*◌, ◌∙◌, arith, List, ℤ, pos, slice_index_or}
use Rattle.mix_audio.specs.Frames.{HasFrame, left_of}

-- a frame stays where only another one was written
pub frame_stays : (old new : List ℤ) (track frame t i : ℕ) (z : ℤ) →
    1024 * t + i ≢ 1024 * track + frame →
    ((k : ℕ) → k ≢ left_of track frame → k ≢ left_of track frame + 1 →
    slice_index_or new k (pos 0) ≡ slice_index_or old k (pos 0)) →
    HasFrame old t i z → HasFrame new t i z
frame_stays old new track frame t i z apart others has = record {
  left = others (left_of t i) (λ same. apart (omega (arith, same)))
      (λ same. absurd (omega (arith, same))) ∙ has.left;
  right = others (left_of t i + 1) (λ same. absurd (omega (arith, same)))
      (λ same. apart (omega (arith, same))) ∙ has.right;
}
