use Rattle.std.proofs.Common.{◌≡◌, ◌++◌, take, flat_map}
use Rattle.mix_model.specs.Encoding.{sample_bytes}
use Rattle.mix_script.proofs.block_text.add_samples.Given as goal

-- the samples so far
abbrev pub invariant-loop-sample : goal.invariant-loop-sample
invariant-loop-sample l = l.bytes.items
    ≡ l.fn.bytes.items ++ flat_map sample_bytes (take l.sample-index l.samples)
