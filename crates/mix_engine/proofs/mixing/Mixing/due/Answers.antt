use Rattle.std.proofs.Common.{sym}
use Rattle.mix_engine.proofs.Stepping.{not_due}
use Rattle.mix_engine.proofs.mixing.Mixing.due.Goals as goal

-- no batch is pending
pub returns : goal.returns
returns c =
    record { value = sym (not_due c.args.self.now c.args.conn c.has_shape.ensures.shape) }
