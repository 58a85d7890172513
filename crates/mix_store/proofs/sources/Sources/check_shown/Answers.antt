-- the parent and the name, and then the rows as they would be
use Rattle.std.proofs.Common.{◌∙◌, sym}
use Rattle.mix_store.proofs.CheckLemmas.{shown_there, shown_late_is}
use Rattle.mix_shape.proofs.WithLemmas.{late_few}
use Rattle.mix_store.proofs.CheckLemmas.{early_fault, shown_early_cause, late_refuses}
use Rattle.mix_store.proofs.sources.Sources.check_shown.Goals as goal

pub late_cause-requires-clause-near : goal.late_cause-requires-clause-near
late_cause-requires-clause-near c = λ never. cc

pub returns-in-Some-clause-refused : goal.returns-in-Some-clause-refused
returns-in-Some-clause-refused c = λ settings spec. early_fault (Unit {0}) _ _ c.in-Some.fault
    (sym c.shown_early-early.ensures ∙ c.in-Some.is)
    (shown_early_cause c.args.self.now c.args.name.now c.args.parent)

pub returns-in-Some-late_cause-clause-refused : goal.returns-in-Some-late_cause-clause-refused
returns-in-Some-late_cause-clause-refused c = λ settings spec.
    let some = rw (c.as_slice-rows.ensures.value, c.has_items.ensures)
    at (sym c.late_cause.ensures ∙ c.in-Some-late_cause.is) in
    late_refuses (Unit {0}) _ _ c.args.self.now.rows _ c.in-Some-late_cause.fault
    (shown_late_is c.args.name.now c.args.kind settings c.args.parent spec c.args.self.now
    (rw (← c.self.view_is) c.self.invariant.below) (rw (← c.self.view_is) c.self.invariant.differ)
    (sym c.shown_early-early.ensures ∙ c.in_default.is)) (rw (← c.self.view_is) some)

pub returns-in-None-clause-there : goal.returns-in-None-clause-there
returns-in-None-clause-there c = shown_there c.args.self.now c.args.name.now c.args.parent
    (sym c.shown_early-early.ensures ∙ c.in_default.is)

pub returns-in-None-clause-few : goal.returns-in-None-clause-few
returns-in-None-clause-few c = rw (← c.self.view_is) (late_few _ c.self.inside.rows.items _
    (rw c.as_slice-rows.ensures.value at (sym c.late_cause.ensures ∙ c.in-None.is)))

pub returns-in-None-clause-refused : goal.returns-in-None-clause-refused
returns-in-None-clause-refused c = λ settings spec.
    let none = rw (c.as_slice-rows.ensures.value, c.has_items.ensures)
    at (sym c.late_cause.ensures ∙ c.in-None.is) in
    shown_late_is c.args.name.now c.args.kind settings c.args.parent spec c.args.self.now
    (rw (← c.self.view_is) c.self.invariant.below) (rw (← c.self.view_is) c.self.invariant.differ)
    (sym c.shown_early-early.ensures ∙ c.in_default.is) ∙ rw (← c.self.view_is) none
