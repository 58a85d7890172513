use Rattle.mix_engine.specs.declared.heading.Heading.TheVariants as heading
use Rattle.mix_engine.specs.Leaving.{goes}
use Rattle.mix_engine.proofs.Stepping.{open_then}
use Rattle.mix_engine.proofs.mixing.Mixing.leave.Goals as goal

-- it is open, and goes
pub returns-in-None : goal.returns-in-None
returns-in-None c = record {
  steps = open_then c.has_shape.ensures.shape c.args.conn c.depart.result c.depart.new.self
      (λ m. goes m.mixer c.args.conn (heading.Left c.args.conn))
      (rw c.in-None.is at c.in_ok-answer.ensures.steps) c.depart.ensures.steps;
}
