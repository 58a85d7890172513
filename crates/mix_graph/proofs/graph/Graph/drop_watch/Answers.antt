-- a watch that ends keeps the shape
use Rattle.mix_shape.proofs.HoldShape.{watch_dropped_shape}
use Rattle.mix_graph.proofs.graph.Graph.drop_watch.Goals as goal

pub edit-requires : goal.edit-requires
edit-requires c = rw (← c.self.view_is)
    (watch_dropped_shape c.args.id c.self.inside.sources c.self.invariant.shape)
