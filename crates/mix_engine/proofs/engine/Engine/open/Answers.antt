use Rattle.mix_engine.proofs.Openers.{engine_opened, engine_unopened, opening_replayed}
use Rattle.mix_engine.proofs.engine.Engine.open.Goals as goal

-- nothing was done yet
pub invariant_of-result : goal.invariant_of-result
invariant_of-result c = opening_replayed c.args.setup c.in-Some.mixing c.new.result.items
    c.new.ensures.items (rw c.in-Some.is at c.in-Ok.ensures.value)
    (rw c.in-Some.is at c.in-Ok.ensures.nobody) (rw c.in-Some.is at c.in-Ok.ensures.numbers)
    c.requires.limits

-- the collection can't be opened
pub returns-in_default-opened : goal.returns-in_default-opened
returns-in_default-opened c = record {
  value = engine_unopened c.args.setup (rw c.in_default-opened.is at c.in-Ok.ensures.opens);
}

-- it is opened
pub returns : goal.returns
returns c = record {
  value = engine_opened c.args.setup c.new.result.items c.new.ensures.items
      (rw c.in-Some.is at c.in-Ok.ensures.opens);
}
