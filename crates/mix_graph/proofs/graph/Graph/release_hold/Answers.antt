-- a hold that ends keeps the shape
use Rattle.mix_shape.proofs.HoldShape.{hold_released_shape}
use Rattle.mix_graph.proofs.graph.Graph.release_hold.Goals as goal

pub edit-requires : goal.edit-requires
edit-requires c = rw (← c.self.view_is)
    (hold_released_shape c.args.id c.self.inside.sources c.self.invariant.shape)
