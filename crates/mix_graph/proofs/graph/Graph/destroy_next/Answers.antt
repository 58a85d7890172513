-- the flags are cut to the rows that are left, and the sources are settled
use Rattle.std.proofs.Common.{refl}
use Rattle.mix_model.specs.Marks.{edited}
use Rattle.mix_shape.proofs.DestroyedShape.{destroyed_less, next_destroyed_shape, destroyed_clock}
use Rattle.mix_graph.proofs.graph.Graph.destroy_next.Goals as goal

pub cut-requires : goal.cut-requires
cut-requires c = record {
  fewer = rw (c.rows.ensures.value, c.destroy_next-destroyed.ensures.state)
      (rw c.self.invariant.told.count (destroyed_less c.self.inside.sources));
}

pub returns-clause-state : goal.returns-clause-state
unfolding edited
returns-clause-state c = rw (
  c.settle.ensures.state,
  c.settle.ensures.begun,
  c.cut.ensures.value,
  ← c.self.view_is,
  c.destroy_next-destroyed.ensures.state,
)

pub settle-requires : goal.settle-requires
settle-requires c = record {
  count = rw (c.cut.ensures.value, c.rows.ensures.value) refl;
  edited = rw c.destroy_next-destroyed.ensures.state
      (next_destroyed_shape c.self.inside.sources c.self.invariant.shape);
  begun = rw (
    c.cut.ensures.value,
    c.destroy_next-destroyed.ensures.state,
    destroyed_clock c.self.inside.sources,
  ) c.self.invariant.begun;
}
