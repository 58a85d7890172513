use Rattle.std.proofs.Common.{◌≡◌, take}
use Rattle.mix_script.specs.BlockText.{peak}
use Rattle.mix_script.proofs.block_text.peak.Given as goal

-- the greatest so far
abbrev pub invariant-loop-sample : goal.invariant-loop-sample
invariant-loop-sample l = l.greatest ≡ peak (take l.sample-index l.samples)
