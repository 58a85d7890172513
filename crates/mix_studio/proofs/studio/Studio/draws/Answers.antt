use Rattle.std.proofs.Common.{◌≡◌, subst, sym, true}
use Rattle.std.specs.List.{list_all}
use Rattle.mix_model.specs.Lookups.{has_row}
use Rattle.mix_model.specs.Values.{is_canvas}
use Rattle.mix_studio.specs.Studios.{StudioModel}
use Rattle.mix_studio.proofs.ShotLemmas.{plan_draws}
use Rattle.mix_studio.proofs.studio.Studio.draws.Goals as goal

-- the roots are rows, on an allowed canvas
pub plan-requires-clause-roots : goal.plan-requires-clause-roots
plan-requires-clause-roots c = subst (λ (n : StudioModel).
    list_all (has_row n.present.graph.rows) c.args.roots.now ≡ true) (sym c.self.view_is)
    c.requires.rows

pub plan-requires-clause-canvas : goal.plan-requires-clause-canvas
plan-requires-clause-canvas c = subst (λ (n : StudioModel). is_canvas n.present.canvas ≡ true)
    (sym c.self.view_is) c.requires.shape.canvas

-- what is planned are their draws
pub returns : goal.returns
returns c = record {
  draws = plan_draws _ c.args.self.now c.args.roots.now c.plan.result c.self.view_is
      c.plan.ensures.drawn c.plan.ensures.valid c.plan.ensures.since;
}
