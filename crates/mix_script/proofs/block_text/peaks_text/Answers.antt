use Rattle.std.proofs.Common.{◌≡◌, ap, ◌∙◌, arith}
use Rattle.mix_script.specs.BlockText.{all_peaks, peaks_text}
use Rattle.mix_script.proofs.Samples.{next_peak}
use Rattle.mix_script.proofs.block_text.peaks_text.Goals as goal

-- the peak of one track more
pub loop-track-preserved : goal.loop-track-preserved
loop-track-preserved c = next_peak c.args.block.now c.loop-track.track c.peak-greatest.result
    c.samples_of.result.now _ _ _ c.loop-track.invariant c.in_ok-push_str.ensures.bytes
    (c.as_str.ensures.value ∙ c.in_ok-piece.ensures.ok) c.peak-greatest.ensures.value
    c.samples_of.ensures.value

-- those of all six
pub returns : goal.returns
unfolding all_peaks
returns c = record {
  value =
      let end : c.loop-track.track ≡ 6 = omega arith in
      c.loop-track.invariant ∙ ap (peaks_text c.args.block.now) end;
}
