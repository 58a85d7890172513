-- the flag of an item is nothing that the shape asks for
use Rattle.mix_model.specs.Edits.{item_locked}
use Rattle.mix_model.proofs.EditShape.{edited_of, locked_shape}
use Rattle.mix_graph.proofs.graph.Graph.set_locked.Goals as goal

pub edit-requires : goal.edit-requires
unfolding item_locked
edit-requires c = rw (← c.self.view_is)
    (edited_of (item_locked c.args.parent c.args.item c.args.locked c.self.inside.sources)
    (locked_shape c.args.parent c.args.item c.args.locked c.self.inside.sources c.self.invariant.shape))
