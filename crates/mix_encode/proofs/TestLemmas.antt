-- Tests.
use Rattle.std.proofs.Common.{◌≡◌, Bool, true, IsTrue, arith}
use Rattle.std.specs.Prelude.{◌&&◌}
use Rattle.std.proofs.lemmas.Bool.Decides.{nat_tests}

-- both of two tests
pub both_true : (a b : Bool) → IsTrue (a && b) → IsTrue a × IsTrue b
both_true a b h = (grind (arith, nat_tests), grind (arith, nat_tests))

-- a test that is true, as an equation
pub is_true : (a : Bool) → IsTrue a → a ≡ true
is_true a h = grind (arith, nat_tests)

pub true_is : (a : Bool) → a ≡ true → IsTrue a
true_is a h = grind (arith, nat_tests)
