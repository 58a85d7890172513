-- items in another order keep the shape
use Rattle.mix_model.specs.Edits.{item_moved}
use Rattle.mix_shape.proofs.ThinnerShape.{moved_shape}
use Rattle.mix_graph.proofs.graph.Graph.set_index.Goals as goal

pub edit-requires : goal.edit-requires
unfolding item_moved
edit-requires c = rw (← c.self.view_is)
    (moved_shape c.args.parent c.args.item c.args.index c.self.inside.sources
    c.self.invariant.shape)
