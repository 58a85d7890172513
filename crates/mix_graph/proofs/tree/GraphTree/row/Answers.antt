-- the rows of sources with the shape are valid
use Rattle.std.proofs.Common.{refl}
use Rattle.mix_model.specs.Lookups.{row_of}
use Rattle.mix_shape.proofs.AddedShape.{valid_view}
use Rattle.mix_graph.proofs.tree.GraphTree.row.Goals as goal

pub returns-clause-valid : goal.returns-clause-valid
returns-clause-valid c = valid_view c.self.inside.sources c.self.invariant.shape c.args.serial
    (row_of c.self.inside.sources c.args.serial) refl c.in-Some.view c.in-Some.ensures
