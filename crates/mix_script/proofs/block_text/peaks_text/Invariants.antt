use Rattle.std.proofs.Common.{◌≡◌, string_bytes}
use Rattle.mix_script.specs.BlockText.{peaks_text}
use Rattle.mix_script.proofs.block_text.peaks_text.Given as goal

-- the tracks so far
abbrev pub invariant-loop-track : goal.invariant-loop-track
invariant-loop-track l = string_bytes l.text ≡ peaks_text l.block l.track
