use Rattle.std.proofs.Common.{subst, sym}
use Rattle.mix_engine.specs.StepAnswers.{Steps}
use Rattle.mix_engine.proofs.Stepping.{goes_on_waiting}
use Rattle.mix_engine.proofs.mixing.Mixing.go_on.Goals as goal

-- no request is due
pub returns : goal.returns
returns c = record {
  steps = subst (Steps c.poll.result c.args.self.now c.poll.new.self)
      (sym (goes_on_waiting c.has_shape.ensures.shape c.args.conn)) c.poll.ensures.steps;
}
