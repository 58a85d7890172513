-- the edit leaves the number of rows, and the sources are settled
use Rattle.std.proofs.Common.{sym, ◌∙◌}
use Rattle.mix_model.specs.Marks.{edited}
use Rattle.mix_model.specs.Items.{with_item}
use Rattle.mix_model.specs.Edits.{item_added}
use Rattle.mix_store.proofs.ChangeLemmas.{changed_length}
use Rattle.mix_store.proofs.SettleLemmas.{item_lets_live}
use Rattle.mix_store.proofs.ItemLemmas.{copy_put}
use Rattle.mix_shape.proofs.AddedShape.{duplicated_shape}
use Rattle.mix_graph.proofs.graph.Graph.duplicate_item.Goals as goal

pub settle_living-requires : goal.settle_living-requires
unfolding item_added
settle_living-requires c = record {
  count = rw c.in-Ok-add_item.ensures.ok (c.self.invariant.told.count
      ∙ sym (changed_length c.args.to (with_item c.in-Ok.copied.child c.spec_of.result)
      c.self.inside.sources));
  edited = rw (
    c.in-Ok-add_item.ensures.ok,
    c.spec_of.ensures,
    ← copy_put c.self.inside.sources
        c.args.parent c.args.item c.args.to c.in-Ok.copied c.in-Ok.ensures.item,
  ) (duplicated_shape c.args.parent c.args.item c.args.to c.self.inside.sources
      c.self.invariant.shape c.in-Ok.ensures.refused);
  begun = rw c.in-Ok-add_item.ensures.ok c.self.invariant.begun;
  living = rw c.in-Ok-add_item.ensures.ok (item_lets_live c.args.to c.in-Ok.copied.child c.spec_of.result
      c.self.inside.sources c.self.invariant.shape);
}

pub returns-in-Ok-add_item-clause-ok : goal.returns-in-Ok-add_item-clause-ok
unfolding edited
returns-in-Ok-add_item-clause-ok c = rw (
  c.settle_living.ensures.state,
  c.settle_living.ensures.begun,
  ← c.self.view_is,
  c.in-Ok-add_item.ensures.ok,
  c.spec_of.ensures,
  ← copy_put c.self.inside.sources c.args.parent c.args.item c.args.to c.in-Ok.copied
      c.in-Ok.ensures.item,
)
