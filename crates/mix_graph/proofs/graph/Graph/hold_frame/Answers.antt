-- the edit leaves the rows, and the sources are settled
use Rattle.mix_model.specs.Marks.{edited}
use Rattle.mix_model.specs.Edits.{frame_held}
use Rattle.mix_shape.proofs.FrameShape.{frame_held_shape}
use Rattle.mix_graph.proofs.graph.Graph.hold_frame.Goals as goal

pub settle-requires : goal.settle-requires
unfolding frame_held
settle-requires c = record {
  count = rw c.in-Ok.ensures.ok c.self.invariant.told.count;
  edited = rw c.in-Ok.ensures.ok (frame_held_shape c.args.number c.self.inside.sources c.self.invariant.shape c.in-Ok.ensures.refused (rw (← c.self.view_is) at c.requires.fresh));
  begun = rw c.in-Ok.ensures.ok c.self.invariant.begun;
}

pub returns-in-Ok-clause-ok : goal.returns-in-Ok-clause-ok
unfolding edited
returns-in-Ok-clause-ok c =
    rw (c.settle.ensures.state, c.settle.ensures.begun, ← c.self.view_is, c.in-Ok.ensures.ok)
