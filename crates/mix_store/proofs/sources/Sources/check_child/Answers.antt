-- the chain, and then the rows as they would be
use Rattle.std.proofs.Common.{◌≡◌, ◌∙◌, sym, ap, refl}
use Rattle.mix_model.specs.Ranks.{ranks_within, weights_within}
use Rattle.mix_model.specs.State.{GraphState}
use Rattle.mix_store.proofs.ItemLemmas.{late_chained}
use Rattle.mix_shape.proofs.WithLemmas.{late_few}
use Rattle.mix_store.proofs.CheckLemmas.{item_late_is, late_refuses}
use Rattle.mix_store.proofs.sources.Sources.check_child.Goals as goal

-- rows are no deeper or heavier than may be, and which rows are shown was asked
pub late_cause-requires : goal.late_cause-requires
unfolding ranks_within weights_within
late_cause-requires c =
    let rows : c.self.inside.rows.items ≡ c.args.self.now.rows =
    ap (λ (g : GraphState). g.rows) c.self.view_is in
    record {
      rising = rw c.as_slice-rows.ensures.value c.self.invariant.rise;
      near = λ near. rw (c.as_slice-rows.ensures.value, rows) (record {
        item = refl;
        tops = rw (c.are_tops-near.ensures, c.as_slice-rows.ensures.value, rows) at near;
        shallow = c.requires.shape.limits.shallow;
        light = c.requires.shape.limits.light;
      });
    }

pub returns-then-is_chained-clause-refused : goal.returns-then-is_chained-clause-refused
returns-then-is_chained-clause-refused c = λ spec. late_chained c.args.self.now _ c.args.parent
    c.args.child (sym c.is_chained.ensures ∙ c.if-is_chained.true)

pub returns-in-Some-clause-refused : goal.returns-in-Some-clause-refused
returns-in-Some-clause-refused c = λ spec.
    let some = rw c.as_slice-rows.ensures.value at (sym c.late_cause.ensures ∙ c.in-Some.is) in
    late_refuses (Unit {0}) _ _ c.args.self.now.rows _ c.in-Some.fault
    (item_late_is c.args.self.now c.args.parent c.args.child spec
    (sym c.is_chained.ensures ∙ c.if-is_chained.false)
    (rw (← c.self.view_is) c.self.invariant.differ) c.requires.there)
    (rw (← c.self.view_is) some)

pub returns-in-None-clause-few : goal.returns-in-None-clause-few
returns-in-None-clause-few c = rw (← c.self.view_is) (late_few _ c.self.inside.rows.items _
    (rw c.as_slice-rows.ensures.value at (sym c.late_cause.ensures ∙ c.in-None.is)))

pub returns-in-None-clause-refused : goal.returns-in-None-clause-refused
returns-in-None-clause-refused c = λ spec.
    let none = rw c.as_slice-rows.ensures.value at (sym c.late_cause.ensures ∙ c.in-None.is) in
    item_late_is c.args.self.now c.args.parent c.args.child spec
    (sym c.is_chained.ensures ∙ c.if-is_chained.false)
    (rw (← c.self.view_is) c.self.invariant.differ) c.requires.there ∙ rw (← c.self.view_is) none
