-- there is one row more, and the sources are settled
use Rattle.std.proofs.Common.{◌+◌, ap, sym, subst, Err, ◌∙◌}
use Rattle.mix_model.specs.Marks.{edited, GraphModel}
use Rattle.mix_store.proofs.CheckLemmas.{group_count, shown_group}
use Rattle.mix_model.specs.Edits.{group_created, item_added}
use Rattle.mix_shape.proofs.BareLemmas.{group_lets_live}
use Rattle.mix_shape.proofs.CreatedShape.{group_created_shape}
use Rattle.mix_store.proofs.CreateLemmas.{refused_same}
use Rattle.mix_model.specs.declared.settings.Settings.TheVariants.{None as NoSettings}
use Rattle.mix_base.specs.declared.numbers.ItemId.{ItemId}
use Rattle.mix_base.specs.declared.numbers.Serial.{Serial}
use Rattle.mix_shape.specs.Refused.{RefusedBy}
use Rattle.mix_model.specs.Causes.{shown_cause}
use Rattle.mix_shape.specs.Created.{shown_added}
use Rattle.mix_model.specs.declared.kind.Kind.TheVariants.{Group}
use Rattle.mix_graph.proofs.graph.Graph.create_group.Goals as goal

pub settle_living-requires : goal.settle_living-requires
unfolding group_created item_added
settle_living-requires c = record {
  count = rw (c.in-Ok.ensures.ok, c.in-Ok-create_group.ensures.ok)
      (ap (λ n. n + 1) c.self.invariant.told.count
      ∙ sym (group_count c.args.name c.args.parent c.args.spec c.self.inside.sources));
  edited = rw c.in-Ok-create_group.ensures.ok (group_created_shape c.args.name c.args.parent c.args.spec c.self.inside.sources
      c.self.invariant.shape c.requires.place
      (rw (← shown_group c.args.name c.args.parent c.args.spec c.self.inside.sources)
      (rw c.bytes.ensures.value at (c.in_default.ensures.refused NoSettings c.args.spec))));
  begun = rw (c.in-Ok.ensures.ok, c.in-Ok-create_group.ensures.ok) c.self.invariant.begun;
  living = rw c.in-Ok-create_group.ensures.ok (group_lets_live c.args.name c.args.parent
      c.args.spec c.self.inside.sources c.self.invariant.shape c.in_default.ensures.there);
}

pub returns-in-Ok-create_group-clause-ok : goal.returns-in-Ok-create_group-clause-ok
unfolding edited
returns-in-Ok-create_group-clause-ok c = rw (
  c.settle_living.ensures.state,
  c.settle_living.ensures.begun,
  c.in-Ok.ensures.ok,
  ← c.self.view_is,
  c.in-Ok-create_group.ensures.ok,
)

pub returns-in-Err-clause-refused : goal.returns-in-Err-clause-refused
returns-in-Err-clause-refused c =
    subst (λ (m : GraphModel). RefusedBy {T = (Serial × ItemId)} (shown_cause m.present c.args.name c.args.parent
    (group_created c.args.name c.args.parent c.args.spec m.present)) (Err c.in-Err.fault))
    c.self.view_is (refused_same (Unit {0}) (Serial × ItemId) _ _ c.in-Err.fault
    (ap (λ n. shown_cause c.self.inside.sources n c.args.parent
    (shown_added n Group NoSettings c.args.parent c.args.spec c.self.inside.sources))
    c.bytes.ensures.value ∙ ap (shown_cause c.self.inside.sources c.args.name c.args.parent)
    (shown_group c.args.name c.args.parent c.args.spec c.self.inside.sources))
    (c.in-Err.ensures.refused NoSettings c.args.spec))

pub returns-in_default-grow-clause-refused : goal.returns-in_default-grow-clause-refused
returns-in_default-grow-clause-refused c = rw (← c.self.view_is) (rw (← shown_group c.args.name c.args.parent c.args.spec c.self.inside.sources)
    (rw c.bytes.ensures.value at (c.in_default.ensures.refused NoSettings c.args.spec)))

pub returns-in-Err-create_group-clause-refused : goal.returns-in-Err-create_group-clause-refused
returns-in-Err-create_group-clause-refused c = rw (← c.self.view_is) (rw (← shown_group c.args.name c.args.parent c.args.spec c.self.inside.sources)
    (rw c.bytes.ensures.value at (c.in_default.ensures.refused NoSettings c.args.spec)))

pub returns-in-Ok-create_group-clause-refused : goal.returns-in-Ok-create_group-clause-refused
returns-in-Ok-create_group-clause-refused c = rw (← c.self.view_is) (rw (← shown_group c.args.name c.args.parent c.args.spec c.self.inside.sources)
    (rw c.bytes.ensures.value at (c.in_default.ensures.refused NoSettings c.args.spec)))
