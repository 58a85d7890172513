use Rattle.std.proofs.Common.{◌≡◌}
use Rattle.mix_turn.specs.Known.{IsOf}
use Rattle.mix_test_turn.proofs.tests.passes.take.Given as goal

abbrev pub invariant-loop-i : goal.invariant-loop-i
invariant-loop-i g l = record { of : IsOf l.turnstile l.pass; parts : l.pass.parts ≡ l.fn.pass.parts }
