use Rattle.std.proofs.Common.{List, IsTrue, sym, subst}
use Rattle.mix_model.specs.declared.draw.Draw.{Draw}
use Rattle.mix_model.specs.Plans.{are_paintable}
use Rattle.mix_raster.proofs.Bands.{base_opaque_too}
use Rattle.mix_raster.proofs.Ranges.{shot_parts}
use Rattle.mix_raster.proofs.painting.paint_band.Goals as goal

-- the further draws can be painted, over what is opaque
pub paint_draws-requires-clause-draws : goal.paint_draws-requires-clause-draws
paint_draws-requires-clause-draws c =
    let P : List Draw → Type 0 = λ draws. IsTrue (are_paintable c.args.tick draws) in
    subst P (sym c.as_slice.ensures.value)
    (shot_parts c.args.tick c.args.shot.now c.requires.ready.paintable).over

pub paint_draws-requires-clause-opaque : goal.paint_draws-requires-clause-opaque
paint_draws-requires-clause-opaque c =
    base_opaque_too c.args.shot.now c.args.tick c.args.band c.paint_base.new.rgba
    c.requires.ready.paintable c.in_ok-paint_base.ensures.painted
