-- the edit leaves the rows, and the sources are settled
use Rattle.mix_model.specs.Marks.{edited}
use Rattle.mix_model.specs.Edits.{clock_set}
use Rattle.mix_shape.proofs.WholeLemmas.{begun_later}
use Rattle.mix_shape.proofs.HoldShape.{clock_set_shape}
use Rattle.mix_graph.proofs.graph.Graph.set_clock.Goals as goal

pub settle-requires : goal.settle-requires
unfolding clock_set
settle-requires c = record {
  count = rw c.set_clock.ensures c.self.invariant.told.count;
  edited = rw c.set_clock.ensures (clock_set_shape c.args.clock c.self.inside.sources c.self.invariant.shape);
  begun = rw c.set_clock.ensures (begun_later _ _ _ c.self.invariant.begun (rw (← c.self.view_is) at c.requires.rises));
}

pub returns : goal.returns
unfolding edited
returns c = record {
  state =
      rw (c.settle.ensures.state, c.settle.ensures.begun, ← c.self.view_is, c.set_clock.ensures);
}
