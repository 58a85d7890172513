-- one item more is raised
use Rattle.std.proofs.Common.{◌<◌, ◌+◌, ◌∙◌, arith, length}
use Rattle.std.proofs.lemmas.Grind.{common_steps}
use Rattle.mix_store.proofs.MoveLemmas.{raised_more, raised_count}
use Rattle.mix_store.proofs.moved.raise_some.Goals as goal

pub loop-preserved : goal.loop-preserved
loop-preserved c =
    let below : c.args.at + c.loop.counter < length c.args.items.now.items =
    grind (arith, common_steps) in
    let here : c.args.at < length c.loop.items.items = grind (arith, common_steps) in
    record {
      all = raised_more c.args.items.now.items c.loop.items.items _ c.args.at c.loop.counter
          below c.loop.invariant.all c.raise.ensures.items;
      count = raised_count c.loop.items.items _ c.args.at here c.raise.ensures.items
          ∙ c.loop.invariant.count;
    }
