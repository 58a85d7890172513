use Rattle.std.proofs.Common.{◌∙◌, sym}
use Rattle.mix_lanes.proofs.LaneLemmas.{first_lanes}
use Rattle.mix_lanes.proofs.mode.NormalMode.meet_lanes.Goals as goal

pub returns : goal.returns
returns c = first_lanes c.args.s c.args._d (c.requires.above.long ∙ sym c.requires.below.long)
