-- the shot can be painted
use Rattle.std.proofs.Common.{IsTrue}
use Rattle.mix_model.specs.Plans.{is_shot}
use Rattle.mix_shots.proofs.shots.shot_of.Given as goal

abbrev pub invariant-loop-text : goal.invariant-loop-text
invariant-loop-text l = IsTrue (is_shot 0 l.shot)
