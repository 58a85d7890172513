use Rattle.std.proofs.Common.{get_or, length, ap, arith}
use Rattle.mix_raster.proofs.Ranges.{draw_parts}
use Rattle.mix_raster.proofs.FillLemmas.{raster_led, raster_small}
use Rattle.mix_raster.proofs.fill.fill_row.Goals as goal

-- a raster has the bytes of each of its pixels
pub fill_raster-requires-clause-small : goal.fill_raster-requires-clause-small
fill_raster-requires-clause-small c =
    raster_small c.args.draw.now.settings c.args.swap c.args.line c.in-Raster.pixels
    c.in-Raster.width c.in-Raster.height (draw_parts c.args.draw.now c.requires.draw).valid
    c.in-Raster.is c.requires.within.down

pub fill_raster-requires-clause-inside : goal.fill_raster-requires-clause-inside
fill_raster-requires-clause-inside c = λ i small.
    let inside = raster_led c.args.draw.now.settings c.in-Raster.pixels c.in-Raster.width
    c.in-Raster.height c.args.swap (get_or c.args.columns.now i 0) c.args.line
    (draw_parts c.args.draw.now c.requires.draw).valid c.in-Raster.is
    (c.requires.within.across i small) c.requires.within.down in
    omega (arith, inside.1, ap length c.bytes.ensures.value)
