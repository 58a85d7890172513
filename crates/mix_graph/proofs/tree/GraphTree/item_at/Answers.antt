-- the items of sources with the shape have valid places, and children that are rows
use Rattle.mix_shape.proofs.AddedShape.{item_place, item_child}
use Rattle.mix_graph.proofs.tree.GraphTree.item_at.Goals as goal

pub returns-clause-place : goal.returns-clause-place
returns-clause-place c = rw c.item_at.ensures
    (item_place c.self.inside.sources c.self.invariant.shape c.args.parent c.args.index)

pub returns-clause-child : goal.returns-clause-child
returns-clause-child c = rw (c.item_at.ensures, ← c.self.view_is)
    (item_child c.self.inside.sources c.self.invariant.shape c.args.parent c.args.index)
