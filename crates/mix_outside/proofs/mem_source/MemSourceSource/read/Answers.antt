use Rattle.std.proofs.Common.{ap, arith}
use Rattle.std.proofs.lemmas.Grind.{common_steps}
use Rattle.mix_outside.proofs.Fronts.{copied}
use Rattle.mix_outside.specs.Memory.{SourceState}
use Rattle.mix_outside.proofs.mem_source.MemSourceSource.read.Goals as goal

-- the bytes given and those behind them are all that was left
pub returns-clause-bytes : goal.returns-clause-bytes
returns-clause-bytes c =
    copied c.args.self.now.left c.self.inside.bytes c.copy_from_slice.new.self _
    c.self.inside.given c.min-count.result (ap (λ (s : SourceState). s.left) c.self.view_is)
    (grind (arith, common_steps)) (grind (arith, common_steps))
