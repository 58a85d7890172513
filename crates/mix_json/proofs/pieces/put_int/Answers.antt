use Rattle.mix_json.proofs.BackLemmas.{back_int}
use Rattle.mix_json.proofs.pieces.put_int.Goals as goal

-- the number has 64 bits, with and without room for it
pub returns-in_err-i64-clause-back : goal.returns-in_err-i64-clause-back
returns-in_err-i64-clause-back c = back_int c.args.number c.ranges.number

pub returns-clause-back : goal.returns-clause-back
returns-clause-back c = back_int c.args.number c.ranges.number
