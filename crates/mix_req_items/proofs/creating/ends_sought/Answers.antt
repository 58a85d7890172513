use Rattle.std.proofs.Common.{◌≡◌, subst, true}
use Rattle.mix_model.specs.Lookups.{is_row}
use Rattle.mix_model.specs.Marks.{GraphModel}
use Rattle.mix_shape.proofs.GrownShape.{named_is_row}
use Rattle.mix_shape.proofs.MarkedLemmas.{scene_there}
use Rattle.mix_req_items.proofs.creating.ends_sought.Goals as goal

-- a scene of the registry is a row, and so is a named source
pub returns-clause-ends : goal.returns-clause-ends
returns-clause-ends c = record {
  holder = subst (λ (k : GraphModel). is_row k.present c.in_ok-holder.holder ≡ true)
      c.graph-graph.ensures.value (scene_there c.graph-graph.result.now.present
      c.has_shape.ensures.shape c.in_ok-holder.holder c.in_ok-holder.ensures.registered);
  child = subst (λ (k : GraphModel). is_row k.present c.in_ok-child.child ≡ true)
      c.graph-graph.ensures.value (named_is_row c.graph-graph.result.now.present
      c.in_ok-child.child c.in_ok-child.ensures.named);
}
