use Rattle.std.proofs.Common.{◌≡◌, ◌∙◌, ◌+◌, [], ◌∷◌, arith, false, length, nat_lt, refl}
use Rattle.std.proofs.Common.{subst, true}
use Rattle.std.proofs.lemmas.Bool.{lt-ltb, le-ltb}
use Rattle.std.proofs.lemmas.List.Elements.{All-nil, All-push}
use Rattle.mix_events.specs.Sayings.{IsSayable}
use Rattle.mix_session.specs.SessionState.{hello}
use Rattle.mix_model.specs.declared.action.Action.TheVariants.{Arrive}
use Rattle.mix_engine.specs.contracts.mixing.Mixing.{the_view}
use Rattle.mix_engine.specs.declared.heading.Heading.TheVariants.{Told}
use Rattle.mix_engine.specs.Connections.{Joins}
use Rattle.mix_engine.specs.Mixings.{Mixed, mixed_of}
use Rattle.mix_engine.specs.Outcomes.{joins}
use Rattle.mix_engine.specs.Step.{outcome}
use Rattle.mix_engine.proofs.Shapes.{LeftBy, sound}
use Rattle.mix_engine.proofs.Stepping.{greeted, has_place, of_seen, quietly_left, tells, unknown}
use Rattle.mix_engine.proofs.mixing.Mixing.arrive.Goals as goal
use Rattle.mix_engine.proofs.mixing.Mixing.arrive.Goals.{After-end}

-- there is no room for it
pub returns-then-len-ge-MOST_CONNS : goal.returns-then-len-ge-MOST_CONNS
returns-then-len-ge-MOST_CONNS c = record {
  steps = rw (subst (λ (m : Mixed). nat_lt (length m.mixer.conns) 64 ≡ false) c.self.view_is
      (has_place c.self.invariant false (le-ltb _ _ (omega arith)))) c.rest.ensures.steps;
}

-- its number is nobody's
pub join-requires : goal.join-requires
join-requires c = record { is_new = unknown c.self.invariant }

-- it is there
left : (c : After-end) → LeftBy (the_view c.self.inside) (joins (the_view c.self.inside).mixer
    c.args.challenge.now (hello c.self.inside.audience.secret c.args.challenge.now))
    (mixed_of c.self.inside.studio.present c.self.inside.notes c.end.new.self
    (c.self.inside.next_conn + 1))
left c = quietly_left c.self.invariant (Joins c.self.inside.next_conn c.args.challenge.now)
    (Told c.self.inside.next_conn)
    (hello c.self.inside.audience.secret c.args.challenge.now ∷ []) (c.self.inside.next_conn + 1)
    c.end.new.self (refl, refl, has_place c.self.invariant true (lt-ltb _ _ (omega arith))) tt tt
    (All-push IsSayable [] (hello c.self.inside.audience.secret c.args.challenge.now)
    (All-nil IsSayable) tt)
    (c.end.ensures.secret ∙ c.in-Ok.ensures.secret)
    (rw c.in-Ok.ensures.listeners at c.end.ensures.listeners)

pub invariant_of-self-2 : goal.invariant_of-self-2
invariant_of-self-2 c = sound c.self.invariant (left (goal.at.invariant_of-self-2 c).After-end)

-- and is told Hello
pub returns : goal.returns
returns c = record {
  steps = of_seen (λ m. outcome m.mixer (Arrive c.args.challenge.now)) c.self.view_is
      (rw (has_place c.self.invariant true (lt-ltb _ _ (omega arith)))
      (tells c.self.invariant (left (goal.at.returns c).After-end) c.self.inside.next_conn
      c.saying.result c.push_reserved.new.self.items tt refl refl c.saying.ensures.says
      (greeted c.self.invariant c.args.challenge.now c.in_ok-said.ensures.items
      c.push_reserved.ensures.items c.in-Ok.ensures.hello)));
}
