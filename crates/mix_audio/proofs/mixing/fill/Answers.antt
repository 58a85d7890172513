use Rattle.std.proofs.Common.{ℕ, ℤ, ◌<◌, ◌+◌, ◌*◌, subst, arith, pos, below_more}
use Rattle.mix_model.specs.Sounds.{clamped, track_sample}
use Rattle.mix_audio.specs.Frames.{HasFrame}
use Rattle.mix_audio.proofs.mixing.fill.Goals as goal

-- one frame more of each track
pub loop-frame-preserved : goal.loop-frame-preserved
loop-frame-preserved c = λ t i up below.
    let frame = c.loop-frame.frame in
    let new = c.write_frame.new.block in
    let Has : ℕ → Type 0 =
    λ j. HasFrame new t j (track_sample c.args.voices.now t (pos (1024 * c.args.number + j))) in
    let Holds : ℤ → Type 0 = λ z. HasFrame new t frame (clamped z) in
    let before : (j : ℕ) → j < frame → Has j = λ j h.
    c.write_frame.ensures.others t j _ up (omega (arith, h))
    (λ same. omega (arith, same, h)) (c.loop-frame.invariant t j up h) in
    let here : Has frame =
    subst Holds (c.sums_at-sums.ensures.value t up) (c.write_frame.ensures.here t up) in
    below_more Has frame before here i below
