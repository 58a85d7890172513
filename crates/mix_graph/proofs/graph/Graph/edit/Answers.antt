-- the edit leaves the number of rows and the clock, and the sources are settled
use Rattle.std.proofs.Common.{sym, ◌∙◌}
use Rattle.mix_model.specs.Marks.{edited}
use Rattle.mix_store.proofs.EditLemmas.{edited_count, edited_clock}
use Rattle.mix_graph.proofs.graph.Graph.edit.Goals as goal

pub settle-requires : goal.settle-requires
settle-requires c = record {
  count = rw c.edit.ensures (c.self.invariant.told.count
      ∙ sym (edited_count c.args.edit c.self.inside.sources));
  edited = rw c.edit.ensures (rw (← c.self.view_is) at c.requires);
  begun = rw (c.edit.ensures, edited_clock c.args.edit c.self.inside.sources)
      c.self.invariant.begun;
}

pub returns : goal.returns
unfolding edited
returns c =
    rw (c.settle.ensures.state, c.settle.ensures.begun, ← c.self.view_is, c.edit.ensures)
