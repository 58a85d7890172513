use Rattle.std.proofs.Common.{ℕ, ◌<◌, ◌+◌, ◌*◌, pos}
use Rattle.mix_model.specs.Sounds.{track_sample}
use Rattle.mix_audio.specs.Frames.{HasFrame}
use Rattle.mix_audio.proofs.mixing.fill.Given as goal

-- the frames so far
abbrev pub invariant-loop-frame : goal.invariant-loop-frame
invariant-loop-frame l = (t i : ℕ) → t < 6 → i < l.frame →
    HasFrame l.block t i (track_sample l.voices t (pos (1024 * l.number + i)))
