use Rattle.std.proofs.Common.{refl, ◌+◌}
use Rattle.mix_lanes.proofs.Rows.{one_over}
use Rattle.mix_lanes.proofs.pixel.over_pixel.Goals as goal

pub returns : goal.returns
returns g c =
    let at = c.args.at in
    let red = c.over_channel-red.ensures in
    let green = c.over_channel-green.ensures in
    let blue = c.over_channel-blue.ensures in
    rw (red, green, blue) (one_over g.M.Mode.blend at (at + 1) (at + 2) (at + 3) c.args.below.now
    c.args.above.now refl refl refl c.requires.below c.requires.above)
