-- it is what a graph keeps
use Rattle.mix_graph.proofs.graph.Graph.has_shape.Goals as goal

pub returns : goal.returns
returns c = record { shape = rw (← c.self.view_is) c.self.invariant.shape }
