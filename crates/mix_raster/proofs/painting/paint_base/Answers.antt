use Rattle.std.proofs.Common.{List, IsTrue, sym, subst}
use Rattle.mix_model.specs.declared.draw.Draw.{Draw}
use Rattle.mix_model.specs.Plans.{are_paintable}
use Rattle.mix_raster.proofs.Ranges.{shot_parts, to_paintable}
use Rattle.mix_raster.proofs.painting.paint_base.Goals as goal

-- the lists of a shot can be painted
pub paint_list-requires-clause-draws : goal.paint_list-requires-clause-draws
paint_list-requires-clause-draws c =
    let P : List Draw → Type 0 = λ draws. IsTrue (are_paintable c.args.tick draws) in
    subst P (sym c.as_slice.ensures.value)
    (shot_parts c.args.tick c.args.shot.now c.requires.ready.paintable).from

pub paint_list-requires-2-clause-draws : goal.paint_list-requires-2-clause-draws
paint_list-requires-2-clause-draws c =
    let P : List Draw → Type 0 = λ draws. IsTrue (are_paintable c.args.tick draws) in
    subst P (sym c.as_slice-2.ensures.value)
    (to_paintable c.args.tick c.args.shot.now c.in-Some.to c.requires.ready.paintable c.in-Some.is)

pub fade_canvas-requires-clause-weights : goal.fade_canvas-requires-clause-weights
fade_canvas-requires-clause-weights c =
    (shot_parts c.args.tick c.args.shot.now c.requires.ready.paintable).weights
