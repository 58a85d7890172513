use Rattle.std.proofs.Common.{[], ◌∙◌, refl, sym}
use Rattle.std.proofs.lemmas.List.{append-nil}
use Rattle.std.proofs.lemmas.List.Elements.{All-nil}
use Rattle.mix_events.specs.Sayings.{IsSayable}
use Rattle.mix_engine.specs.declared.heading.Heading.TheVariants.{Told}
use Rattle.mix_engine.specs.Connections.{Same}
use Rattle.mix_engine.specs.Outcomes.{only}
use Rattle.mix_engine.proofs.Shapes.{sound}
use Rattle.mix_engine.proofs.Stepping.{of_seen, quietly_left, tells}
use Rattle.mix_engine.proofs.mixing.Mixing.tell_waiting.Goals as goal

-- the others are as they were
pub invariant_of-self : goal.invariant_of-self
invariant_of-self c = sound c.self.invariant (quietly_left c.self.invariant Same (Told c.args.conn)
    [] c.self.inside.next_conn c.end.new.self refl tt tt (All-nil IsSayable) c.end.ensures.secret
    c.end.ensures.listeners)

-- it is told what waits for it
pub returns : goal.returns
returns c = record {
  steps = of_seen (λ m. only m.mixer (Told c.args.conn) []) c.self.view_is
      (tells c.self.invariant (quietly_left c.self.invariant Same (Told c.args.conn) []
      c.self.inside.next_conn c.end.new.self refl tt tt (All-nil IsSayable) c.end.ensures.secret
      c.end.ensures.listeners) c.args.conn c.saying.result c.in_ok-said.said.items tt refl refl
      c.saying.ensures.says (c.in_ok-said.ensures.said ∙ sym (append-nil _)));
}
