use Rattle.std.proofs.Common.{arith}
use Rattle.std.proofs.lemmas.Grind.{common_steps}
use Rattle.mix_outside.proofs.Runs.{range_goes}
use Rattle.mix_outside.proofs.read_ahead.ReadAhead.consume.Goals as goal

-- the range without its first bytes
pub returns : goal.returns
returns c = record {
  state = rw (← c.self.view_is) (range_goes c.self.inside.bytes.items c.self.inside.start
      c.self.inside.end c.args.count (grind (arith, common_steps)));
}
