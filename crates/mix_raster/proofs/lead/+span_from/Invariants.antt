use Rattle.std.proofs.Common.{◌-◌, length}
use Rattle.mix_raster.proofs.lead.+span_from.Given as goal

-- the steps that remain
abbrev pub decreases-span_from : goal.decreases-span_from
decreases-span_from l = length l.steps.now - l.from
