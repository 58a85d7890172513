use Rattle.std.proofs.Common.{◌≡◌, flat_map, filter}
use Rattle.std.specs.List.{range_with_len}
use Rattle.mix_model.specs.Encoding.{sample_bytes, samples_of}
use Rattle.mix_model.specs.Sounds.{has_track}
use Rattle.mix_encode.proofs.pcm.pcm_s16le.Given as goal

-- the tracks so far
abbrev pub invariant-loop-track : goal.invariant-loop-track
invariant-loop-track l = l.bytes.items
    ≡ flat_map (λ track. flat_map sample_bytes (samples_of l.block track))
    (filter (has_track l.tracks) (range_with_len 0 l.track))
