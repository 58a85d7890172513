use Rattle.std.proofs.Common.{◌≡◌, ◌+◌, ◌<◌, get_or, arith}
use Rattle.std.specs.Char.{digit_value}
use Rattle.std.proofs.lemmas.Str.{digit_value_digit}
use Rattle.std.proofs.lemmas.Str.Parse.{digit_from_value}
use Rattle.std.proofs.lemmas.Int.Digits.{digits_more, digits_value_more}
use Rattle.mix_json.proofs.number.few_digits.Goals as goal

-- one more digit
pub loop-byte-preserved : goal.loop-byte-preserved
loop-byte-preserved c =
    let l = c.loop-byte in
    let i = l.byte-index in
    let s = c.args.text.now in
    let digit : digit_value (get_or s i 0) < 10 = grind arith in
    let code : digit_value (get_or s i 0) + 48 ≡ get_or s i 0 = digit_value_digit (get_or s i 0) (digit_from_value (get_or s i 0) digit) in
    let more = digits_value_more 10 s i (omega arith) in
    record {
      digits = digits_more 10 s i (omega arith) l.invariant.digits digit;
      value = omega (arith, more);
      bound = omega arith;
    }
