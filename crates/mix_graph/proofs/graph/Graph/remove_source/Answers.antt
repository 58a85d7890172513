-- a source that is removed leaves the others in shape
use Rattle.mix_shape.proofs.ThinnerShape.{source_removed_shape}
use Rattle.mix_graph.proofs.graph.Graph.remove_source.Goals as goal

pub edit-requires : goal.edit-requires
edit-requires c = rw (← c.self.view_is)
    (source_removed_shape c.args.serial c.self.inside.sources c.self.invariant.shape)
