-- the shot can be painted
use Rattle.std.proofs.Common.{IsTrue}
use Rattle.mix_model.specs.Plans.{is_shot}
use Rattle.mix_painting.proofs.shots.scene.Given as goal

abbrev pub invariant-loop-number : goal.invariant-loop-number
invariant-loop-number l = IsTrue (is_shot 0 l.shot)
