-- a frame that ends keeps the shape
use Rattle.mix_shape.proofs.FrameShape.{frame_released_shape}
use Rattle.mix_graph.proofs.graph.Graph.release_frame.Goals as goal

pub edit-requires : goal.edit-requires
edit-requires c = rw (← c.self.view_is)
    (frame_released_shape c.args.number c.self.inside.sources c.self.invariant.shape)
