use Rattle.std.proofs.Common.{[]}
use Rattle.mix_engine.specs.declared.heading.Heading.TheVariants as heading
use Rattle.mix_engine.specs.Outcomes.{only}
use Rattle.mix_engine.proofs.Stepping.{open_then}
use Rattle.mix_engine.proofs.mixing.Mixing.poll.Goals as goal

-- it is open, and told what waits for it
pub returns-in-None : goal.returns-in-None
returns-in-None c = record {
  steps = open_then c.has_shape.ensures.shape c.args.conn c.tell_waiting.result
      c.tell_waiting.new.self (λ m. only m.mixer (heading.Told c.args.conn) [])
      (rw c.in-None.is at c.in_ok-answer.ensures.steps) c.tell_waiting.ensures.steps;
}
