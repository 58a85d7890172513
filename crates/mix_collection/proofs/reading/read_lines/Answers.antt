use Rattle.std.proofs.Common.{rules}
use Rattle.mix_collection.proofs.Parts.{collects_behind, reads_failed, without_head}
use Rattle.mix_collection.proofs.reading.read_lines.Goals as goal

-- the head is read, or there is none
pub returns-in_err-head-clause-collection : goal.returns-in_err-head-clause-collection
returns-in_err-head-clause-collection g c = λ tells. reads_failed c.from_residual.result
    c.in_err-head.field-0.0 _ (search rules)
    (λ built. without_head _ (c.in_err-head.ensures.head tells built))

pub returns-clause-collection : goal.returns-clause-collection
returns-clause-collection g c = λ tells. collects_behind c.in_ok-head.head c.read_body.result
    _ _ (c.in_ok-head.ensures.head tells) (c.read_body.ensures.collection tells)
