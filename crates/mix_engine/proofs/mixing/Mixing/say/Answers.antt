use Rattle.std.proofs.Common.{[], ◌∷◌, ◌∙◌, refl, sym}
use Rattle.std.proofs.lemmas.List.Elements.{All-nil, All-push}
use Rattle.mix_events.specs.Sayings.{IsSayable}
use Rattle.mix_engine.specs.contracts.mixing.Mixing.{the_view}
use Rattle.mix_engine.specs.declared.heading.Heading.TheVariants.{Told}
use Rattle.mix_engine.specs.Connections.{Identifies}
use Rattle.mix_engine.specs.Mixings.{mixed_of}
use Rattle.mix_engine.specs.Outcomes.{identifies}
use Rattle.mix_engine.proofs.Shapes.{LeftBy, sound}
use Rattle.mix_engine.proofs.Stepping.{of_seen, quietly_left, tells}
use Rattle.mix_engine.proofs.mixing.Mixing.say.Goals as goal
use Rattle.mix_engine.proofs.mixing.Mixing.say.Goals.{After-end}

-- it wants other events from now on
left : (c : After-end) → LeftBy (the_view c.self.inside)
    (identifies (the_view c.self.inside).mixer c.args.conn c.args.mask c.args.said)
    (mixed_of c.self.inside.studio.present c.self.inside.notes c.end.new.self
    c.self.inside.next_conn)
left c = quietly_left c.self.invariant (Identifies c.args.conn c.args.mask) (Told c.args.conn)
    (c.args.said ∷ []) c.self.inside.next_conn c.end.new.self refl
    (sym c.if-not-is_deaf.ensures.value) tt
    (All-push IsSayable [] c.args.said (All-nil IsSayable) c.requires.said)
    (c.end.ensures.secret ∙ c.identify.ensures.secret)
    (rw c.identify.ensures.listeners at c.end.ensures.listeners)

pub invariant_of-self : goal.invariant_of-self
invariant_of-self c = sound c.self.invariant (left (goal.at.invariant_of-self c).After-end)

-- it is told what waits for it, and what is said
pub returns : goal.returns
returns c = record {
  steps = rw (sym c.if-not-is_deaf.ensures.value) (of_seen
      (λ m. identifies m.mixer c.args.conn c.args.mask c.args.said) c.self.view_is
      (tells c.self.invariant (left (goal.at.returns c).After-end) c.args.conn c.saying.result
      c.push_reserved.new.self.items tt refl refl c.saying.ensures.says
      (rw c.in-Ok.ensures.said at c.push_reserved.ensures.items)));
}
