use Rattle.std.proofs.Common.{◌≡◌, ◌∙◌, ap, arith, below_more, rules}
use Rattle.std.proofs.Common.{FitsSigned, w32, to_z, of_z, to_z-of_z}
use Rattle.std.specs.Int.{w128}
use Rattle.mix_model.specs.Sounds.{clamped}
use Rattle.mix_audio.specs.Sums.{sum_of}
use Rattle.mix_audio.proofs.Written.{frame_stays}
use Rattle.mix_audio.proofs.mixing.write_frame.Goals as goal

-- one track more has the frame
pub loop-track-preserved : goal.loop-track-preserved
loop-track-preserved c =
    let l = c.loop-track in
    let frame = c.args.frame in
    let sums = c.args.sums.now in
    let small : FitsSigned w32 c.held.result = search rules in
    let fits : FitsSigned w128 (sum_of sums l.track) = search rules in
    let held : to_z w32 (of_z w32 c.held.result) ≡ clamped (sum_of sums l.track) =
    to_z-of_z small ∙ c.held.ensures ∙ ap clamped (to_z-of_z fits) in
    record {
      here = below_more _ _
          (λ t before. frame_stays l.block c.write_both.new.block l.track frame t frame _
          (λ same. absurd (omega (arith, same, before))) c.write_both.ensures.others
          (l.invariant.here t before))
          (record {
            left = c.write_both.ensures.left ∙ held;
            right = c.write_both.ensures.right ∙ held;
          });
      others = λ t i z up below apart has.
          frame_stays l.block c.write_both.new.block l.track frame t i z
          (λ same. apart (omega (arith, same, below))) c.write_both.ensures.others
          (l.invariant.others t i z up below apart has);
    }
