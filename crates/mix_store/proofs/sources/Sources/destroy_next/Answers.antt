-- nothing dies, or the first goes with its row
use Rattle.std.proofs.Common.{◌∙◌, sym}
use Rattle.mix_shape.proofs.DestroyedShape.{none_destroyed, first_destroyed}
use Rattle.mix_store.proofs.DestroyLemmas.{order_destroyed}
use Rattle.mix_store.proofs.sources.Sources.destroy_next.Goals as goal

pub returns-in_default-clause-state : goal.returns-in_default-clause-state
returns-in_default-clause-state c =
    let none = rw c.as_slice.ensures.value
    at (sym c.first.ensures.value ∙ sym c.copied.ensures ∙ c.in_default.is) in
    none_destroyed c.args.self.now (rw (← c.self.view_is) none)

pub invariant_of-self : goal.invariant_of-self
invariant_of-self c =
    let found = rw c.as_slice.ensures.value
    at (sym c.first.ensures.value ∙ sym c.copied.ensures ∙ c.in-Some.is) in
    rw (c.take_row.ensures, c.remove.ensures.items, c.remove.ensures.capacity)
    (order_destroyed c.self.inside.rows.items c.self.inside.dying.items _ _ _ c.self.invariant
    found)

pub returns-clause-state : goal.returns-clause-state
returns-clause-state c =
    let found = rw c.as_slice.ensures.value
    at (sym c.first.ensures.value ∙ sym c.copied.ensures ∙ c.in-Some.is) in
    rw (
      ← c.self.view_is,
      c.take_row.ensures,
      c.remove.ensures.items,
    ) (first_destroyed _ c.in-Some.serial found)
