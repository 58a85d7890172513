use Rattle.std.proofs.Common.{rules}
use Rattle.mix_collection.proofs.Parts.{collects_body, reads_failed, without_lines}
use Rattle.mix_collection.proofs.Parts.{without_registry}
use Rattle.mix_collection.proofs.reading.read_body.Goals as goal

-- no line stands behind the login
pub returns-in_err-secret-clause-collection : goal.returns-in_err-secret-clause-collection
returns-in_err-secret-clause-collection g c = λ tells. reads_failed c.from_residual.result
    c.in_err-secret.field-0.0 _ (search rules)
    (λ built. without_lines c.args.head _ (c.in_err-secret.ensures.login tells built))

-- the login and the lines are read, or the lines say nothing
pub returns-in-Ok-clause-collection : goal.returns-in-Ok-clause-collection
returns-in-Ok-clause-collection g c = λ tells. collects_body c.args.head c.in_ok-secret.secret
    c.in-Ok.registry _ _ _ c.collection_from.result (c.in_ok-secret.ensures.login tells)
    (c.in-Ok.ensures.registry tells) c.collection_from.ensures.value

pub returns-in-Err-clause-collection : goal.returns-in-Err-clause-collection
returns-in-Err-clause-collection g c = λ tells built. without_registry c.args.head
    c.in_ok-secret.secret _ _ _ (c.in_ok-secret.ensures.login tells)
    (c.in-Err.ensures.registry tells built)
