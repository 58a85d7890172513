use Rattle.std.proofs.Common.{rules}
use Rattle.mix_collection.proofs.Parts.{head_failed, no_format, without_canvas, heads_behind}
use Rattle.mix_collection.proofs.head.read_head.Goals as goal

-- the first line names no format
pub returns-in_err-read_format-clause-head : goal.returns-in_err-read_format-clause-head
returns-in_err-read_format-clause-head g c = λ tells. head_failed c.from_residual.result
    c.in_err-read_format.field-0.0 _ _ (search rules)
    (λ built. no_format _ (c.in_err-read_format.ensures.format tells built))

-- the second line says a canvas, or none
pub returns-in_err-canvas-clause-head : goal.returns-in_err-canvas-clause-head
returns-in_err-canvas-clause-head g c = λ tells. head_failed c.from_residual-in_err-canvas.result
    c.in_err-canvas.field-0.0 _ _ (search rules)
    (λ built. without_canvas _ _ _ (c.in_ok-read_format.ensures.format tells)
    (c.in_err-canvas.ensures.canvas tells built))

pub returns-clause-head : goal.returns-clause-head
returns-clause-head g c = λ tells. heads_behind _ c.in_ok-canvas.canvas c.read_settings.result
    _ _ _ _ (c.in_ok-read_format.ensures.format tells) (c.in_ok-canvas.ensures.canvas tells)
    (c.read_settings.ensures.head tells)
