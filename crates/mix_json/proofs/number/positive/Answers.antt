use Rattle.std.proofs.Common.{rules}
use Rattle.mix_json.proofs.NumberLemmas.{digits_alone}
use Rattle.mix_json.proofs.number.positive.Goals as goal

-- a few digits
pub returns-in-Some : goal.returns-in-Some
returns-in-Some c = search (rules, digits_alone)
