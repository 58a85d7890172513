use Rattle.std.proofs.Common.{◌≡◌, ◌∙◌, ◌+◌, ◌-◌, ◌*◌, ap₂, length, arith}
use Rattle.mix_model.specs.Blending.{over}
use Rattle.mix_raster.proofs.Parts.{colour_before, colour_in, part_colour}
use Rattle.mix_raster.proofs.span.lay_span.Goals as goal

-- a part of the row lies over as much of the canvas
pub returns-clause-here : goal.returns-clause-here
returns-clause-here c = λ i small.
    let at = c.args.at in
    let size = at + 4 * c.args.count - at in
    let old = c.args.canvas.now in
    let new = c.over_row.new.below in
    let long : length new ≡ size = omega arith in
    colour_in at size old new (omega arith) long (at + 4 * i) (4 * i) (omega arith) (omega arith)
    ∙ c.over_row.ensures.pixels i (omega arith)
    ∙ ap₂ (over c.args.blend)
    (part_colour (4 * c.args.count - 0) 0 c.args.row.now (4 * i) (4 * i) (omega arith) (omega arith))
    (part_colour size at old (at + 4 * i) (4 * i) (omega arith) (omega arith))

pub returns-clause-before : goal.returns-clause-before
returns-clause-before c = λ k h.
    let at = c.args.at in
    let size = at + 4 * c.args.count - at in
    let new = c.over_row.new.below in
    let long : length new ≡ size = omega arith in
    colour_before at size c.args.canvas.now new (omega arith) long k h
