use Rattle.std.proofs.Common.{◌≡◌, ◌++◌, ℕ, List, Vec, Global, true, false, flat_map, filter}
use Rattle.std.proofs.Common.{length, ap, sym, ◌∙◌, arith}
use Rattle.std.specs.List.{range_with_len}
use Rattle.mix_model.specs.Encoding.{pcm_of, sample_bytes, samples_of}
use Rattle.mix_model.specs.Sounds.{has_track}
use Rattle.mix_encode.proofs.Tracks.{no_piece_more, pcm_long, piece_more}
use Rattle.mix_encode.proofs.pcm.pcm_s16le.Goals.{then-has_track+in_ok-add_samples, else-has_track}
use Rattle.mix_encode.proofs.pcm.pcm_s16le.Goals as goal

-- one track more, or one that the mask lacks
pub loop-track-preserved : goal.loop-track-preserved
loop-track-preserved c =
    let block = c.args.block.now in
    let mask = c.args.tracks in
    let track = c.loop-track.track in
    let piece : ℕ → List ℕ = λ t. flat_map sample_bytes (samples_of block t) in
    let before : List ℕ = flat_map piece (filter (has_track mask) (range_with_len 0 track)) in
    let items : Vec ℕ Global → List ℕ = λ v. v.items in
    elim c.if-has_track.branch [
      | then-has_track+in_ok-add_samples w ↦
          let passes : has_track mask track ≡ true =
          sym c.has_track.ensures ∙ w.if-has_track.true in
          ap items w.bytes-is ∙ w.in_ok-add_samples.ensures.ok
          ∙ ap (λ bytes. bytes ++ flat_map sample_bytes w.samples_of.result.now)
          c.loop-track.invariant
          ∙ ap (λ samples. before ++ flat_map sample_bytes samples) w.samples_of.ensures.value
          ∙ sym (piece_more piece (has_track mask) track passes)
      | else-has_track w ↦
          let fails : has_track mask track ≡ false =
          sym c.has_track.ensures ∙ w.if-has_track.false in
          ap items w.bytes-is ∙ c.loop-track.invariant
          ∙ sym (no_piece_more piece (has_track mask) track fails)
    ]

-- all tracks of the mask
whole : (c : goal.After-from_vec) → c.from_vec.result ≡ pcm_of c.args.block.now c.args.tracks
unfolding pcm_of
whole c =
    let end : c.loop-track.track ≡ 6 = omega arith in
    c.from_vec.ensures.value ∙ c.loop-track.invariant
    ∙ ap (λ n. flat_map (λ t. flat_map sample_bytes (samples_of c.args.block.now t))
    (filter (has_track c.args.tracks) (range_with_len 0 n))) end

pub returns-clause-value : goal.returns-clause-value
returns-clause-value c = whole c

pub returns-clause-length : goal.returns-clause-length
returns-clause-length c = ap length (whole c)
    ∙ pcm_long c.args.block.now c.args.tracks c.requires.block c.requires.tracks
