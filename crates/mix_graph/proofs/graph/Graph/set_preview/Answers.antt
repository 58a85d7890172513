-- a preview that is given a scene, or nothing, keeps the shape
use Rattle.std.proofs.Common.{sym, ◌∙◌}
use Rattle.mix_shape.proofs.HoldShape.{preview_set_shape}
use Rattle.mix_graph.proofs.graph.Graph.set_preview.Goals as goal

pub edit-requires : goal.edit-requires
edit-requires c = rw (← c.self.view_is)
    (preview_set_shape c.args.to c.self.inside.sources c.self.invariant.shape
    (sym c.is_missing.ensures ∙ c.if-is_missing.false) (rw (← c.self.view_is) at c.requires.scene))
