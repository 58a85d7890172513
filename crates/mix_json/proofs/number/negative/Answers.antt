use Rattle.std.proofs.Common.{rules}
use Rattle.mix_json.proofs.NumberLemmas.{digits_with_sign}
use Rattle.mix_json.proofs.number.negative.Goals as goal

-- a few digits, and not zero
pub returns-in-Some : goal.returns-in-Some
returns-in-Some c = search (rules, digits_with_sign)
