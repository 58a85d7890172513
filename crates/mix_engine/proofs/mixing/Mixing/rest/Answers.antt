use Rattle.std.proofs.Common.{[], refl}
use Rattle.std.proofs.lemmas.List.Elements.{All-nil}
use Rattle.mix_events.specs.Sayings.{IsSayable}
use Rattle.mix_engine.specs.contracts.mixing.Mixing.{the_view}
use Rattle.mix_engine.specs.Connections.{Same}
use Rattle.mix_engine.specs.Outcomes.{only}
use Rattle.mix_engine.proofs.Shapes.{sound}
use Rattle.mix_engine.proofs.Stepping.{of_seen, quietly_left, stepped, untold}
use Rattle.mix_engine.proofs.mixing.Mixing.rest.Goals as goal

-- all are as they were
pub invariant_of-self : goal.invariant_of-self
invariant_of-self c = sound c.self.invariant (quietly_left c.self.invariant Same c.args.heading []
    c.self.inside.next_conn c.end.new.self refl tt tt (All-nil IsSayable) c.end.ensures.secret
    (rw (c.actor.ensures.value, c.silent-answer.ensures.says.heading)
    at c.end.ensures.listeners))

-- nothing is told
pub returns : goal.returns
returns c =
    let told = untold c.args.heading (the_view c.self.inside)
    (only (the_view c.self.inside).mixer c.args.heading []) c.requires.untold in record {
      steps = of_seen (λ m. only m.mixer c.args.heading []) c.self.view_is
          (stepped c.self.invariant (quietly_left c.self.invariant Same c.args.heading []
          c.self.inside.next_conn c.end.new.self refl tt tt (All-nil IsSayable)
          c.end.ensures.secret (rw (c.actor.ensures.value, c.silent-answer.ensures.says.heading)
          at c.end.ensures.listeners)) c.silent-answer.result told.0 []
          c.silent-answer.ensures.says told.1);
    }
