-- the parent and the child, and then what is late
use Rattle.std.proofs.Common.{sym, ◌∙◌}
use Rattle.mix_store.proofs.ItemLemmas.{parent_there}
use Rattle.mix_store.proofs.CheckLemmas.{early_fault, item_early_cause, ok_always}
use Rattle.mix_store.proofs.sources.Sources.check_item.Goals as goal

pub check_child-requires : goal.check_child-requires
check_child-requires c = record {
  shape = c.requires.shape;
  there = parent_there c.args.self.now c.args.parent c.args.child
      (sym c.item_early-early.ensures ∙ c.in_default.is);
}

pub returns-in-Some-clause-refused : goal.returns-in-Some-clause-refused
returns-in-Some-clause-refused c = λ spec. early_fault (Unit {0}) _ _ c.in-Some.fault
    (sym c.item_early-early.ensures ∙ c.in-Some.is)
    (item_early_cause c.args.self.now c.args.parent c.args.child)

pub returns-clause-there : goal.returns-clause-there
returns-clause-there c = ok_always _ c.check_child.result
    (parent_there c.args.self.now c.args.parent c.args.child
    (sym c.item_early-early.ensures ∙ c.in_default.is))

pub returns-clause-refused : goal.returns-clause-refused
returns-clause-refused c = λ spec.
    rw (sym c.item_early-early.ensures ∙ c.in_default.is) (c.check_child.ensures.refused spec)
