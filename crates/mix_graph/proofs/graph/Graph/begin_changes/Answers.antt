-- the marks are those of what stands
use Rattle.mix_model.specs.Marks.{actions_begun}
use Rattle.mix_graph.proofs.graph.Graph.begin_changes.Goals as goal

pub returns : goal.returns
unfolding actions_begun
returns c = record { state = rw (c.begin.ensures.begun, ← c.self.view_is) }
