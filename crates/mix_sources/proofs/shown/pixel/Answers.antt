-- Valid settings divide by no 0, and a point inside them stays within their bytes.
use Rattle.std.proofs.Common.{ap, length, arith}
use Rattle.std.proofs.lemmas.Int.{ints}
use Rattle.mix_sources.proofs.ValidLemmas.{checker_point, raster_point, scroll_parts}
use Rattle.mix_sources.proofs.shown.pixel.Goals as goal

pub is_first_square-requires-clause-some : goal.is_first_square-requires-clause-some
is_first_square-requires-clause-some c = (checker_point c.args.u c.args.v _ _ _ _ _ _
    c.requires.valid c.requires.inside c.in-Checker.is).0

pub is_first_square-requires-clause-small : goal.is_first_square-requires-clause-small
is_first_square-requires-clause-small c =
    let parts = checker_point c.args.u c.args.v _ _ _ _ _ _
    c.requires.valid c.requires.inside c.in-Checker.is in
    (parts.1, parts.2)

pub is_first_bar-requires-clause-some : goal.is_first_bar-requires-clause-some
is_first_bar-requires-clause-some c = (scroll_parts _ _ _ _ _ _ _
    c.requires.valid c.in-Scroll.is).0

pub is_first_bar-requires-clause-slow : goal.is_first_bar-requires-clause-slow
is_first_bar-requires-clause-slow c =
    let parts = scroll_parts _ _ _ _ _ _ _ c.requires.valid c.in-Scroll.is in
    (omega (arith, ints, parts.1), omega (arith, ints, parts.2))

pub four_bytes-requires-clause-small : goal.four_bytes-requires-clause-small
four_bytes-requires-clause-small c =
    let parts = raster_point c.args.u c.args.v _ _ _ _
    c.requires.valid c.requires.inside c.in-Raster.is in
    (parts.0, parts.1, parts.2)

pub four_bytes-requires-clause-inside : goal.four_bytes-requires-clause-inside
four_bytes-requires-clause-inside c =
    let parts = raster_point c.args.u c.args.v _ _ _ _
    c.requires.valid c.requires.inside c.in-Raster.is in
    omega (arith, parts.3, ap length c.bytes.ensures.value)
