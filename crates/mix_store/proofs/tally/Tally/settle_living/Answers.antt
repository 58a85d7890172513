-- the settling keeps the number of rows
use Rattle.std.proofs.Common.{◌≡◌, arith, length}
use Rattle.std.proofs.lemmas.Grind.{common_steps}
use Rattle.mix_model.specs.Marks.{settled_by}
use Rattle.mix_shape.proofs.MarkedLemmas.{marks_rise}
use Rattle.mix_shape.proofs.WholeLemmas.{settled_keeps}
use Rattle.mix_store.proofs.KeptLemmas.{settled_length}
use Rattle.mix_store.proofs.tally.Tally.settle_living.Goals as goal

pub settle_living-requires-clause-rising : goal.settle_living-requires-clause-rising
settle_living-requires-clause-rising c = rw c.as_slice.ensures.value
    (marks_rise _ _ (rw (← c.self.view_is) at c.requires.begun))

pub tell-requires : goal.tell-requires
tell-requires c =
    let same : length c.settle_living.new.self.rows ≡ length c.args.sources.now.rows =
    rw c.settle_living.ensures (settled_length c.as_slice.result.now c.args.sources.now) in
    record {
      count = grind (arith, common_steps, same);
      rising = marks_rise _ _ (rw (← c.self.view_is) at c.requires.begun);
    }

pub returns-clause-whole : goal.returns-clause-whole
unfolding settled_by
returns-clause-whole c =
    let begun = rw (← c.self.view_is) at c.requires.begun in
    record {
      told = c.tell.ensures.told;
      shape = rw (c.settle_living.ensures, c.as_slice.ensures.value)
          (settled_keeps c.self.inside.begun.items c.args.sources.now begun c.requires.edited);
      begun = rw (c.tell.ensures.begun, c.settle_living.ensures) begun;
    }
