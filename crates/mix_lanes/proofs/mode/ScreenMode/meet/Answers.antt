use Rattle.std.proofs.Common.{rules, ◌<◌, arith}
use Rattle.mix_lanes.proofs.Sums.{screen_small}
use Rattle.mix_lanes.proofs.mode.ScreenMode.meet.Goals as goal

-- what a screen makes of two channels fits one
pub overflow_cast-result : goal.overflow_cast-result
overflow_cast-result c =
    let s : c.args.s < 256 = search rules in
    let d : c.args.d < 256 = search rules in
    let fits = screen_small c.args.s c.args.d (omega arith) (omega arith) in omega (arith, fits)
