-- the edit leaves the rows, and the sources are settled
use Rattle.mix_model.specs.Marks.{edited}
use Rattle.mix_model.specs.Edits.{channel_set}
use Rattle.mix_shape.proofs.HoldShape.{channel_set_shape, neither_passes}
use Rattle.mix_shape.specs.Refused.{is_missing}
use Rattle.std.proofs.Common.{sym, ◌∙◌}
use Rattle.mix_graph.proofs.graph.Graph.set_channel.Goals as goal

pub settle-requires : goal.settle-requires
unfolding channel_set
settle-requires c = record {
  count = rw c.set_channel.ensures c.self.invariant.told.count;
  edited = rw c.set_channel.ensures (channel_set_shape c.args.channel (c.args.first, c.args.second) c.self.inside.sources c.self.invariant.shape
      (rw (← c.self.view_is) at c.requires.given)
      (neither_passes (is_missing c.self.inside.sources) c.args.first c.args.second
      (sym c.is_missing.ensures ∙ c.if-is_missing.false)
      (sym c.is_missing-else-is_missing.ensures ∙ c.if-is_missing-2.false)));
  begun = rw c.set_channel.ensures c.self.invariant.begun;
}

pub returns-clause-ok : goal.returns-clause-ok
unfolding edited
returns-clause-ok c =
    rw (c.settle.ensures.state, c.settle.ensures.begun, ← c.self.view_is, c.set_channel.ensures)
