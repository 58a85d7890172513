-- an entry that is found, and none
use Rattle.std.proofs.Common.{Some, None}
use Rattle.mix_requests.proofs.TypeLemmas.{request_found}
use Rattle.mix_requests.proofs.request_type.request_among.Goals as goal

pub returns-in-Some : goal.returns-in-Some
returns-in-Some c = request_found c.args.kind.now c.args.entries.now (Some c.in-Some.entry.now)
    c.in-Some.ensures

pub returns-in-None : goal.returns-in-None
returns-in-None c = request_found c.args.kind.now c.args.entries.now None c.in-None.ensures
