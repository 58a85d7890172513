use Rattle.std.proofs.Common.{◌≡◌, flat_map}
use Rattle.std.specs.List.{range_with_len}
use Rattle.mix_model.specs.Encoding.{sample_bytes, samples_of}
use Rattle.mix_script.proofs.block_text.all_bytes.Given as goal

-- the tracks so far
abbrev pub invariant-loop-track : goal.invariant-loop-track
invariant-loop-track l = l.bytes.items
    ≡ flat_map (λ track. flat_map sample_bytes (samples_of l.block track)) (range_with_len 0 l.track)
