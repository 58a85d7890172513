-- a root more is listed, and in the end all are
use Rattle.std.proofs.Common.{refl, ◌∙◌, sym, append-nil}
use Rattle.std.proofs.lemmas.List.{drop_all}
use Rattle.std.proofs.lemmas.Option.{slice_get_read}
use Rattle.mix_plan.specs.Listed.{plan_of}
use Rattle.mix_plan.proofs.LoopLemmas.{draws_more, tests_more}
use Rattle.mix_plan.proofs.plans.list_roots.Goals as goal

pub loop-root-preserved : goal.loop-root-preserved
loop-root-preserved g c =
    let is = slice_get_read c.args.roots.now _ c.loop-root.root-index c.root-item.result refl
    c.loop-root-test.true c.root-item.is in
    record {
      steps = c.in-Ok.ensures.steps ∙ c.loop-root.invariant.steps;
      draws = draws_more _ c.args.roots.now c.loop-root.root-index c.root-item.result
          c.loop-root.listing.draws.items _ _ is c.loop-root.invariant.draws
          (rw c.loop-root.invariant.steps at c.in-Ok.ensures.draws);
      sound = tests_more _ c.args.roots.now c.loop-root.root-index c.root-item.result _ is
          c.loop-root.invariant.sound c.in-Ok.ensures.sound;
    }

pub returns-clause-value : goal.returns-clause-value
unfolding plan_of
returns-clause-value g c = c.into_draws.ensures
    ∙ sym (append-nil c.loop-root.listing.draws.items)
    ∙ (rw (drop_all c.loop-root.root-index c.args.roots.now c.loop-root-test.false)
    at c.loop-root.invariant.draws)
