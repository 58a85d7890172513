use Rattle.std.proofs.Common.{◌∙◌, ap, List, w16}
use Rattle.std.specs.Prelude.{Bool, nat_lt}
use Rattle.std.specs.Simd.Lanes.{sel_l}
use Rattle.std.proofs.lemmas.Simd.{tops_compared}
use Rattle.mix_lanes.proofs.LaneLemmas.{least_lanes}
use Rattle.mix_lanes.proofs.lanes.least.Goals as goal

-- by the test of which is less
pub returns : goal.returns
returns c =
    ap (λ (tests : List Bool). sel_l tests c.args.s c.args.d) (tops_compared w16 nat_lt c.args.s c.args.d)
    ∙ least_lanes c.args.s c.args.d c.requires
