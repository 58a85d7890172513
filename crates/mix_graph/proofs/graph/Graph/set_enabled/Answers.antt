-- the flag of an item is nothing that the shape asks for
use Rattle.mix_model.specs.Edits.{item_enabled}
use Rattle.mix_model.proofs.EditShape.{edited_of, enabled_shape}
use Rattle.mix_graph.proofs.graph.Graph.set_enabled.Goals as goal

pub edit-requires : goal.edit-requires
unfolding item_enabled
edit-requires c = rw (← c.self.view_is)
    (edited_of (item_enabled c.args.parent c.args.item c.args.enabled c.self.inside.sources)
    (enabled_shape c.args.parent c.args.item c.args.enabled c.self.inside.sources c.self.invariant.shape))
