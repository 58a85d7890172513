use Rattle.std.proofs.Common.{arith}
use Rattle.std.proofs.lemmas.Grind.{common_steps}
use Rattle.mix_outside.proofs.Fronts.{given_ahead}
use Rattle.mix_outside.proofs.read_ahead.ReadAhead.read.Goals as goal

-- the bytes given, those still ahead and those behind are all that was left
pub returns-clause-bytes : goal.returns-clause-bytes
returns-clause-bytes g c = λ told.
    given_ahead _ c.fill.new.self c.copy_from_slice.new.self _ c.consume.new.self
    (g.S.Source.left c.fill.new.source) c.min-count.result
    (grind (arith, common_steps, c.in-More.ensures.bytes told)) (grind (arith, common_steps))
    (grind (arith, common_steps)) c.consume.ensures.state
