-- there is no row
use Rattle.std.proofs.Common.{refl}
use Rattle.mix_model.specs.Edits.{empty_graph}
use Rattle.mix_shape.proofs.WholeLemmas.{empty_shape, empty_begun}
use Rattle.mix_graph.proofs.graph.Graph.new.Goals as goal

pub invariant_of-result : goal.invariant_of-result
unfolding empty_graph
invariant_of-result c = rw (c.new-2.ensures.value, c.new.ensures.value) (record {
  told = record { count = refl; changes = refl };
  shape = empty_shape;
  begun = empty_begun;
})
