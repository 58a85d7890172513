-- a free name keeps the shape
use Rattle.std.proofs.Common.{◌≡◌, false, sym, ◌∙◌}
use Rattle.mix_model.specs.Holders.{has_name}
use Rattle.mix_model.specs.Edits.{renamed}
use Rattle.mix_shape.proofs.SetShape.{renamed_shape}
use Rattle.mix_graph.proofs.graph.Graph.rename.Goals as goal

pub edit-requires : goal.edit-requires
unfolding renamed
edit-requires c =
    let free : has_name c.self.inside.sources c.args.name ≡ false =
    rw c.bytes.ensures.value at (sym c.has_name.ensures ∙ c.if-has_name.false) in
    rw (← c.self.view_is)
    (renamed_shape c.args.serial c.args.name c.self.inside.sources c.self.invariant.shape free)
