-- the next item is raised where it has the id, and else stays
use Rattle.std.proofs.Common.{◌≡◌, ◌<◌, ◌∙◌, sym, arith, length, get_or, true, false, eq-eqb}
use Rattle.std.proofs.lemmas.Bool.{ne_eqb}
use Rattle.std.proofs.lemmas.Grind.{common_steps}
use Rattle.mix_model.specs.Rows.{has_id}
use Rattle.mix_store.proofs.MoveLemmas.{next_parted, part_raised, count_raised, part_stays}
use Rattle.mix_store.proofs.MoveLemmas.{count_stays, all_parted, all_failed, raised_count}
use Rattle.mix_store.proofs.moved.part.Goals as goal
use Rattle.mix_store.proofs.moved.part.Goals.{then-here-id, else-here-id}

pub loop-preserved : goal.loop-preserved
loop-preserved c =
    let below : c.loop.counter < length c.args.items.now.items = grind (arith, common_steps) in
    let next : c.index.result.now ≡ get_or c.args.items.now.items c.loop.counter c.index.result.now =
    c.index.ensures ∙ rw c.loop.invariant.others (next_parted (has_id c.args.id)
    c.args.items.now.items c.loop.items.items c.loop.counter c.index.result.now below
    c.loop.invariant.all) in
    let here : c.loop.others < length c.loop.items.items = grind (arith, common_steps) in
    elim c.if-here-id.branch [
      | then-here-id w ↦
          let passed : has_id c.args.id
          (get_or c.args.items.now.items c.loop.counter c.index.result.now) ≡ true =
          rw (← next) (eq-eqb _ _ (sym c.here.view_is ∙ w.if-here-id.true ∙ c.id.view_is)) in
          rw (w.items-is, w.others-is) (record {
            all = part_raised (has_id c.args.id) c.args.items.now.items c.loop.items.items _
                c.loop.counter c.loop.others c.index.result.now below c.loop.invariant.all
                c.loop.invariant.others passed (w.raise.ensures.items c.index.result.now);
            others = count_raised (has_id c.args.id) c.args.items.now.items c.loop.counter
                c.loop.others c.index.result.now below c.loop.invariant.others passed;
            count = raised_count c.loop.items.items _ c.loop.others here w.raise.ensures.items
                ∙ c.loop.invariant.count;
          })
      | else-here-id w ↦
          let other : has_id c.args.id
          (get_or c.args.items.now.items c.loop.counter c.index.result.now) ≡ false =
          rw (← next) (ne_eqb _ _ (λ same. w.if-here-id.false (c.here.view_is ∙ same ∙ sym c.id.view_is))) in
          rw (w.items-is, w.others-is) (record {
            all = part_stays (has_id c.args.id) c.args.items.now.items c.loop.items.items
                c.loop.counter c.index.result.now below c.loop.invariant.all other;
            others = count_stays (has_id c.args.id) c.args.items.now.items c.loop.counter
                c.loop.others c.index.result.now below c.loop.invariant.others other;
            count = c.loop.invariant.count;
          })
    ]

pub returns-clause-count : goal.returns-clause-count
returns-clause-count c = c.loop.invariant.others ∙ all_failed (has_id c.args.id)
    c.args.items.now.items c.loop.counter (grind (arith, common_steps))

pub returns-clause-items : goal.returns-clause-items
returns-clause-items c = c.loop.invariant.all ∙ all_parted (has_id c.args.id)
    c.args.items.now.items c.loop.counter (grind (arith, common_steps))
