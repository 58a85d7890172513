-- rows and clock stay, and the sources are settled
use Rattle.std.proofs.Common.{refl}
use Rattle.mix_model.specs.Marks.{edited}
use Rattle.mix_model.specs.Edits.{let_go}
use Rattle.mix_shape.proofs.HoldShape.{let_go_shape}
use Rattle.mix_graph.proofs.graph.Graph.let_go.Goals as goal

pub settle-requires : goal.settle-requires
unfolding let_go
settle-requires c = record {
  count = rw c.let_go.ensures c.self.invariant.told.count;
  edited = rw c.let_go.ensures
      (let_go_shape c.args.holds.now c.args.watches.now c.self.inside.sources c.self.invariant.shape);
  begun = rw c.let_go.ensures c.self.invariant.begun;
}

pub returns : goal.returns
unfolding edited
returns c = record {
  state =
      rw (c.settle.ensures.state, c.settle.ensures.begun, ← c.self.view_is, c.let_go.ensures) refl;
}
