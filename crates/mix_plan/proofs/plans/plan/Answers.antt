-- what holds of the list of sound roots
use Rattle.mix_plan.proofs.LoopLemmas.{both_ok}
use Rattle.mix_plan.proofs.DrawnLemmas.{plan_is_drawing}
use Rattle.mix_plan.proofs.ValidLemmas.{plan_is_valid}
use Rattle.mix_plan.proofs.SinceLemmas.{plan_is_begun}
use Rattle.mix_plan.proofs.plans.plan.Goals as goal

pub returns-clause-drawn : goal.returns-clause-drawn
returns-clause-drawn g c = both_ok c.list_roots.result
    (plan_is_drawing (g.T.Tree.rows c.args.tree.now) c.args.canvas c.args.roots.now)
    c.list_roots.ensures.value c.list_roots.ensures.sound

pub returns-clause-valid : goal.returns-clause-valid
returns-clause-valid g c = both_ok c.list_roots.result
    (plan_is_valid (g.T.Tree.rows c.args.tree.now) c.args.canvas c.args.roots.now)
    c.list_roots.ensures.value c.list_roots.ensures.sound

pub returns-clause-since : goal.returns-clause-since
returns-clause-since g c = both_ok c.list_roots.result
    (λ draws is sound. plan_is_begun (g.T.Tree.rows c.args.tree.now) c.args.canvas
    c.args.roots.now draws is) c.list_roots.ensures.value c.list_roots.ensures.sound
