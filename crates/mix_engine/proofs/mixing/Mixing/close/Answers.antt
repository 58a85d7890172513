use Rattle.std.proofs.Common.{◌∙◌, refl, sym}
use Rattle.std.proofs.lemmas.List.{append-nil}
use Rattle.mix_engine.specs.contracts.mixing.Mixing.{the_view}
use Rattle.mix_engine.specs.declared.heading.Heading.TheVariants.{Closed}
use Rattle.mix_engine.specs.Leaving.{goes}
use Rattle.mix_engine.specs.Mixings.{mixed_of}
use Rattle.mix_engine.proofs.Leavers.{gone_left}
use Rattle.mix_engine.proofs.Shapes.{LeftBy, sound}
use Rattle.mix_engine.proofs.Stepping.{of_seen, tells}
use Rattle.mix_engine.proofs.mixing.Mixing.close.Goals as goal
use Rattle.mix_engine.proofs.mixing.Mixing.close.Goals.{After-end}

-- the connection is gone, with what it held and watched
gone : (c : After-end) → LeftBy (the_view c.self.inside)
    (goes (the_view c.self.inside).mixer c.args.conn (Closed c.args.conn c.args.code))
    (mixed_of c.let_go_all.new.studio.present c.let_go_all.new.notes c.end.new.self
    c.self.inside.next_conn)
gone c = gone_left c.self.invariant c.args.conn (Closed c.args.conn c.args.code) c.end.new.self
    c.let_go_all.ensures.shape c.in-Ok.ensures.ok c.in-Ok.ensures.ok_notes
    (c.end.ensures.secret ∙ c.leave.ensures.secret)
    (rw c.leave.ensures.listeners at c.end.ensures.listeners)

pub invariant_of-self-2 : goal.invariant_of-self-2
invariant_of-self-2 c = sound c.self.invariant (gone (goal.at.invariant_of-self-2 c).After-end)

-- and is told what waited for it
pub returns : goal.returns
returns c = record {
  steps = of_seen (λ m. goes m.mixer c.args.conn (Closed c.args.conn c.args.code))
      c.self.view_is (tells c.self.invariant (gone (goal.at.returns c).After-end) c.args.conn
      c.saying.result c.in_ok-said.said.items tt refl refl c.saying.ensures.says
      (c.in_ok-said.ensures.said ∙ sym (append-nil _)));
}
