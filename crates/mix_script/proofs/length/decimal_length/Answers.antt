-- a number of ten or more has one digit more than its tenth
use Rattle.std.proofs.Common.{length, arith, ap, lit<}
use Rattle.std.proofs.lemmas.Fmt.{decimal_digit, decimal_nonempty, length-decimal-le}
use Rattle.mix_script.proofs.NumberLemmas.{length-tenth}
use Rattle.mix_script.proofs.length.decimal_length.Goals as goal

pub overflow_add-digits : goal.overflow_add-digits
overflow_add-digits c =
    let some = decimal_nonempty c.digits.left (omega arith) in
    let few = length-decimal-le 20 c.args.number (lit< tt) (omega arith) (omega arith) in
    omega arith

pub digits-preserved : goal.digits-preserved
digits-preserved c =
    let tenth = length-tenth c.digits.left c.digits-test.true (omega arith) in
    omega arith

pub returns : goal.returns
returns c =
    let one = ap length (decimal_digit c.digits.left (omega arith)) in
    let few = length-decimal-le 20 c.args.number (lit< tt) (omega arith) (omega arith) in
    record { value = omega arith; within = omega arith }
