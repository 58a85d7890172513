-- a valid place keeps the shape
use Rattle.mix_model.specs.Edits.{item_placed}
use Rattle.mix_model.proofs.EditShape.{edited_of, placed_shape}
use Rattle.mix_graph.proofs.graph.Graph.set_place.Goals as goal

pub edit-requires : goal.edit-requires
unfolding item_placed
edit-requires c = rw (← c.self.view_is)
    (edited_of (item_placed c.args.parent c.args.item c.args.place c.args.blend
    c.self.inside.sources) (placed_shape c.args.parent c.args.item c.args.place c.args.blend
    c.requires.place c.self.inside.sources c.self.invariant.shape))
