use Rattle.std.proofs.Common.{◌∙◌, [], refl}
use Rattle.mix_engine.specs.contracts.mixing.Mixing.{the_view}
use Rattle.mix_engine.specs.declared.heading.Heading.TheVariants.{Left}
use Rattle.mix_engine.specs.Leaving.{goes}
use Rattle.mix_engine.specs.Mixings.{mixed_of}
use Rattle.mix_engine.proofs.Leavers.{gone_left}
use Rattle.mix_engine.proofs.Shapes.{LeftBy, sound}
use Rattle.mix_engine.proofs.Stepping.{of_seen, stepped}
use Rattle.mix_engine.proofs.mixing.Mixing.depart.Goals as goal
use Rattle.mix_engine.proofs.mixing.Mixing.depart.Goals.{After-end}

-- the connection is gone, with what it held and watched
gone : (c : After-end) → LeftBy (the_view c.self.inside)
    (goes (the_view c.self.inside).mixer c.args.conn (Left c.args.conn))
    (mixed_of c.let_go_all.new.studio.present c.let_go_all.new.notes c.end.new.self
    c.self.inside.next_conn)
gone c = gone_left c.self.invariant c.args.conn (Left c.args.conn) c.end.new.self
    c.let_go_all.ensures.shape c.in_ok-let_go_all.ensures.ok c.in_ok-let_go_all.ensures.ok_notes
    (c.end.ensures.secret ∙ c.leave.ensures.secret)
    (rw c.leave.ensures.listeners at c.end.ensures.listeners)

pub invariant_of-self-2 : goal.invariant_of-self-2
invariant_of-self-2 c = sound c.self.invariant (gone (goal.at.invariant_of-self-2 c).After-end)

-- and nothing is told
pub returns : goal.returns
returns c = record {
  steps = of_seen (λ m. goes m.mixer c.args.conn (Left c.args.conn)) c.self.view_is
      (stepped c.self.invariant (gone (goal.at.returns c).After-end) c.silent.result tt []
      c.silent.ensures.says refl);
}
