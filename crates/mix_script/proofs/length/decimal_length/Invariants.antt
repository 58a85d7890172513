-- the digits counted, and those of what is left, are one more than all
use Rattle.std.proofs.Common.{◌≡◌, ◌+◌, length, decimal}
use Rattle.mix_script.proofs.length.decimal_length.Given as goal

abbrev pub invariant-digits : goal.invariant-digits
invariant-digits l = length (decimal l.number) + 1 ≡ l.digits + length (decimal l.left)

abbrev pub decreases-digits : goal.decreases-digits
decreases-digits l = l.left
