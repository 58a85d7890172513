use Rattle.std.proofs.Common.{◌∙◌, List, ℕ, get_or, length, ap, subst, arith}
use Rattle.std.proofs.lemmas.List.{length-take-le}
use Rattle.mix_raster.specs.Ways.{IsShown, Shows}
use Rattle.mix_raster.proofs.Layers.{painted_at, part_opaque}
use Rattle.mix_raster.proofs.layer.paint_row.Goals as goal

-- the whole band is opaque
pub over_span-requires-clause-opaque : goal.over_span-requires-clause-opaque
over_span-requires-clause-opaque c = part_opaque c.args.draw.now c.args.way.now c.args.band
    c.args.canvas.now c.start.result c.args.i c.requires.way c.requires.opaque c.requires.within
    c.start.ensures.value

-- and so is the row, where it is said that it hides what it lies over
pub over_span-requires-clause-hides : goal.over_span-requires-clause-hides
over_span-requires-clause-hides c = λ hides i small.
    let way = c.args.way.now in
    let counted = ap length c.places-2.ensures.value
    ∙ length-take-le way.across.count way.across.table.items c.requires.way.across in
    c.show-shown.ensures.shown.opaque hides i (omega (arith, counted))

-- the row shows what is said of it
pub returns-clause-shown : goal.returns-clause-shown
returns-clause-shown c =
    let P : List ℕ → Type 0 = λ columns. IsShown c.args.draw.now c.args.tick c.args.way.now.swap
    columns c.show-shown.new.row c.show-shown.result in
    subst P c.places-2.ensures.value c.show-shown.ensures.shown

-- and lies over that of the band
pub returns-clause-painted : goal.returns-clause-painted
returns-clause-painted c =
    let P : List ℕ → Type 0 = λ columns. Shows c.args.draw.now c.args.tick c.args.way.now.swap
    columns c.show-shown.result.line c.show-shown.new.row in
    painted_at c.args.tick c.start.result c.show-shown.result.line c.args.i c.args.draw.now
    c.args.way.now c.args.band c.args.canvas.now c.over_span.new.canvas c.show-shown.new.row
    c.requires.way c.requires.within c.start.ensures.value
    (c.show-shown.ensures.line
    ∙ ap (λ (xs : List ℕ). get_or xs c.args.i 0) c.places.ensures.value)
    (subst P c.places-2.ensures.value c.show-shown.ensures.shown.shows) c.over_span.ensures.here
    c.over_span.ensures.before c.over_span.ensures.after
