use Rattle.mix_model.specs.Edits.{item_enabled}
use Rattle.mix_studio.proofs.LentLemmas.{call_beside, lent_shape}
use Rattle.mix_studio_calls.proofs.EnabledLemmas.{enabled_beside}
use Rattle.mix_studio_calls.proofs.changing.hide_item.Goals as goal

-- channels, frames in flight and the clock stay
pub returns : goal.returns
returns c = record {
  shape = lent_shape c.args.studio.now c.graph_mut-graph.result.now c.set_enabled.new.self
      c.graph_mut-graph.ensures.value c.requires.shape c.has_shape.ensures.shape
      (call_beside c.set_enabled.result _ _ (item_enabled c.args.parent c.args.item _)
      (enabled_beside c.args.parent c.args.item _) c.set_enabled.ensures.ok
      c.set_enabled.ensures.err);
}
