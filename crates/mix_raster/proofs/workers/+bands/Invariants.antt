use Rattle.std.proofs.Common.{◌+◌, ◌-◌, ◌*◌}
use Rattle.mix_raster.proofs.workers.+bands.Given as goal

-- workers are halved
abbrev pub decreases-paint_bands : goal.decreases-paint_bands
decreases-paint_bands g l = 4 * l.workers

abbrev pub decreases-paint_both : goal.decreases-paint_both
decreases-paint_both g l = 4 * (l.few + l.many) - 1

abbrev pub decreases-paint_both-first : goal.decreases-paint_both-first
decreases-paint_both-first g l = 4 * l.few + 1

abbrev pub decreases-paint_both-second : goal.decreases-paint_both-second
decreases-paint_both-second g l = 4 * l.many + 1
