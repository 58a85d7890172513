use Rattle.std.proofs.Common.{ℕ, List, ◌++◌, flat_map, ap, sym, ◌∙◌, ◌≡◌, arith}
use Rattle.std.specs.List.{range_with_len}
use Rattle.mix_model.specs.Encoding.{pcm_of, sample_bytes, samples_of}
use Rattle.mix_script.proofs.Samples.{place_more}
use Rattle.mix_script.proofs.block_text.all_bytes.Goals as goal

-- one track more
pub loop-track-preserved : goal.loop-track-preserved
loop-track-preserved c =
    let block = c.args.block.now in
    let track = c.loop-track.track in
    let piece : ℕ → List ℕ = λ t. flat_map sample_bytes (samples_of block t) in
    c.in_ok-add_samples.ensures.ok
    ∙ ap (λ bytes. bytes ++ flat_map sample_bytes c.samples_of.result.now) c.loop-track.invariant
    ∙ ap (λ samples. flat_map piece (range_with_len 0 track) ++ flat_map sample_bytes samples)
    c.samples_of.ensures.value
    ∙ sym (place_more piece track)

-- all six
pub returns : goal.returns
unfolding pcm_of
returns c = record {
  value =
      let end : c.loop-track.track ≡ 6 = omega arith in
      c.loop-track.invariant
      ∙ ap (λ n. flat_map (λ t. flat_map sample_bytes (samples_of c.args.block.now t))
      (range_with_len 0 n)) end;
}
