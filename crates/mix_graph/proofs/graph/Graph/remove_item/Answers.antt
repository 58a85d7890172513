-- an item fewer keeps the shape
use Rattle.mix_model.specs.Edits.{item_removed}
use Rattle.mix_shape.proofs.ThinnerShape.{removed_shape}
use Rattle.mix_graph.proofs.graph.Graph.remove_item.Goals as goal

pub edit-requires : goal.edit-requires
unfolding item_removed
edit-requires c = rw (← c.self.view_is)
    (removed_shape c.args.parent c.args.item c.self.inside.sources c.self.invariant.shape)
