-- valid settings of its kind keep the shape
use Rattle.std.proofs.Common.{sym, ◌∙◌}
use Rattle.mix_model.specs.Edits.{input_set}
use Rattle.mix_shape.proofs.SetShape.{set_shape, not_missing}
use Rattle.mix_graph.proofs.graph.Graph.set_input.Goals as goal

pub edit-requires : goal.edit-requires
unfolding input_set
edit-requires c = rw (← c.self.view_is)
    (set_shape c.args.serial c.args.settings c.args.sound c.self.inside.sources
    c.self.invariant.shape (not_missing c.self.inside.sources c.args.serial (sym c.is_named.ensures
    ∙ c.if-not-is_named.false) (rw (← c.self.view_is) at c.requires.input)) c.requires.sound)
