-- the item and where its copy goes, and then what is late for an item of its child
use Rattle.std.proofs.Common.{◌∙◌, sym}
use Rattle.mix_model.specs.declared.item.Item.{Item}
use Rattle.mix_model.specs.Items.{spec_of}
use Rattle.mix_store.proofs.CreateLemmas.{refused_same}
use Rattle.mix_store.proofs.ItemLemmas.{copied_there, goal_there}
use Rattle.mix_store.proofs.CheckLemmas.{early_fault, copy_early_cause, copied_refuses}
use Rattle.mix_store.proofs.sources.Sources.check_copy.Goals as goal

pub returns-in-Some-clause-refused : goal.returns-in-Some-clause-refused
returns-in-Some-clause-refused c = early_fault Item _ _ c.in-Some.fault
    (sym c.copy_early-early.ensures ∙ c.in-Some.is)
    (copy_early_cause c.args.self.now c.args.parent c.args.id c.args.to)

pub unreachable-requires : goal.unreachable-requires
unreachable-requires c =
    let none = sym c.item.ensures ∙ sym c.copied.ensures ∙ c.in_default-copied.is in
    let there = copied_there c.args.self.now c.args.parent c.args.id c.args.to
    (sym c.copy_early-early.ensures ∙ c.in_default.is) in
    absurd (cc (rw none at there))

pub check_child-requires : goal.check_child-requires
check_child-requires c = record {
  shape = c.requires.shape;
  there = goal_there c.args.self.now c.args.parent c.args.id c.args.to
      (sym c.copy_early-early.ensures ∙ c.in_default.is);
}

pub returns-in-Err-clause-refused : goal.returns-in-Err-clause-refused
returns-in-Err-clause-refused c =
    refused_same (Unit {0}) Item _ _ c.in-Err.fault
    (sym (copied_refuses c.args.self.now c.args.parent c.args.id c.args.to c.in-Some-copied.item
    (sym c.copy_early-early.ensures ∙ c.in_default.is)
    (sym c.item.ensures ∙ sym c.copied.ensures ∙ c.in-Some-copied.is)))
    (c.in-Err.ensures.refused (spec_of c.in-Some-copied.item))

pub returns-in-Ok-clause-there : goal.returns-in-Ok-clause-there
returns-in-Ok-clause-there c = goal_there c.args.self.now c.args.parent c.args.id c.args.to
    (sym c.copy_early-early.ensures ∙ c.in_default.is)

pub returns-in-Ok-clause-refused : goal.returns-in-Ok-clause-refused
returns-in-Ok-clause-refused c =
    copied_refuses c.args.self.now c.args.parent c.args.id c.args.to c.in-Some-copied.item
    (sym c.copy_early-early.ensures ∙ c.in_default.is)
    (sym c.item.ensures ∙ sym c.copied.ensures ∙ c.in-Some-copied.is)
    ∙ c.in-Ok.ensures.refused (spec_of c.in-Some-copied.item)
