-- digits are a text, and it's parsed as their value
use Rattle.mix_script.proofs.NumberLemmas.{number_parts, utf8_digits, value_read}
use Rattle.mix_script.proofs.number.value_of.Goals as goal

pub unreachable-requires : goal.unreachable-requires
unreachable-requires c =
    c.in-Err.ensures.cases.0 (utf8_digits c.args.digits.now (number_parts c.args.digits.now c.requires).1)

pub returns : goal.returns
returns c =
    value_read c.args.digits.now c.in-Ok.text.now c.parse.result c.ok.result c.requires c.in-Ok.ensures.cases.0 c.parse.ensures.value.0 c.ok.ensures.value
