-- the edit leaves the number of rows, and the sources are settled
use Rattle.std.proofs.Common.{refl, sym, ◌∙◌, subst, Err}
use Rattle.mix_model.specs.Marks.{edited, GraphModel}
use Rattle.mix_model.specs.Items.{with_item}
use Rattle.mix_model.specs.Edits.{item_added}
use Rattle.mix_store.proofs.ChangeLemmas.{changed_length}
use Rattle.mix_store.proofs.SettleLemmas.{item_lets_live}
use Rattle.mix_shape.proofs.AddedShape.{item_added_shape}
use Rattle.mix_shape.specs.Refused.{RefusedBy}
use Rattle.mix_store.proofs.CreateLemmas.{refused_same}
use Rattle.mix_model.specs.Causes.{item_cause}
use Rattle.mix_base.specs.declared.numbers.ItemId.{ItemId}
use Rattle.mix_graph.proofs.graph.Graph.add_item.Goals as goal

pub settle_living-requires : goal.settle_living-requires
unfolding item_added
settle_living-requires c = record {
  count = rw c.in-Ok.ensures.ok (c.self.invariant.told.count
      ∙ sym (changed_length c.args.parent (with_item c.args.child c.args.spec)
      c.self.inside.sources));
  edited = rw c.in-Ok.ensures.ok (item_added_shape c.args.parent c.args.child c.args.spec
      c.self.inside.sources c.self.invariant.shape c.requires.place
      (c.in_default.ensures.refused c.args.spec));
  begun = rw c.in-Ok.ensures.ok c.self.invariant.begun;
  living = rw c.in-Ok.ensures.ok (item_lets_live c.args.parent c.args.child c.args.spec
      c.self.inside.sources c.self.invariant.shape);
}

pub returns-in-Ok-clause-ok : goal.returns-in-Ok-clause-ok
unfolding edited
returns-in-Ok-clause-ok c = rw (
  c.settle_living.ensures.state,
  c.settle_living.ensures.begun,
  ← c.self.view_is,
  c.in-Ok.ensures.ok,
)

pub returns-in-Err-clause-refused : goal.returns-in-Err-clause-refused
returns-in-Err-clause-refused c =
    subst (λ (m : GraphModel). RefusedBy {T = ItemId} (item_cause m.present c.args.parent c.args.child
    (item_added c.args.parent c.args.child c.args.spec m.present)) (Err c.in-Err.fault))
    c.self.view_is
    (refused_same (Unit {0}) ItemId _ _ c.in-Err.fault refl (c.in-Err.ensures.refused c.args.spec))
