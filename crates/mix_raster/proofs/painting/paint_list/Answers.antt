use Rattle.std.proofs.Common.{◌∙◌, ◌+◌, List, IsTrue, ap, sym, subst, arith}
use Rattle.std.proofs.lemmas.List.{take_rest}
use Rattle.mix_model.specs.declared.draw.Draw.{Draw}
use Rattle.mix_model.specs.Colours.{black}
use Rattle.mix_model.specs.Plans.{are_paintable, draws_over}
use Rattle.mix_raster.proofs.Bands.{black_opaque, rest_paintable}
use Rattle.mix_raster.proofs.Canvases.{filled_row}
use Rattle.mix_raster.proofs.painting.paint_list.Goals as goal

-- the draws that are seen can be painted
pub paint_draws-requires-clause-draws : goal.paint_draws-requires-clause-draws
paint_draws-requires-clause-draws c =
    let P : List Draw → Type 0 = λ draws. IsTrue (are_paintable c.args.tick draws) in
    subst P (sym (take_rest c.args.draws.now c.in-Some.first))
    (rest_paintable c.args.tick c.in-Some.first c.args.draws.now c.requires.draws)

-- what is black is opaque
pub paint_draws-requires-in-None-clause-opaque : goal.paint_draws-requires-in-None-clause-opaque
paint_draws-requires-in-None-clause-opaque c =
    black_opaque (c.args.band.width, c.args.band.rows) c.blacken.new.rgba
    (filled_row (c.args.band.width, c.args.band.rows) c.blacken.new.rgba black
    (λ k h. c.blacken.ensures k (omega arith)))

-- the draws over what is black
pub returns-in-None-clause-painted : goal.returns-in-None-clause-painted
returns-in-None-clause-painted c = λ x y left up.
    c.paint_draws-in-None.ensures.painted x y left up
    ∙ ap (λ below. draws_over c.args.tick x (c.args.band.top + y) below c.args.draws.now)
    (filled_row (c.args.band.width, c.args.band.rows) c.blacken.new.rgba black
    (λ k h. c.blacken.ensures k (omega arith)) x y left up)
