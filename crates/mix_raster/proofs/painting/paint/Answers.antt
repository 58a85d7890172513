use Rattle.std.proofs.Common.{◌≡◌, ◌∙◌, ◌*◌, ℕ, List, length, ap, arith}
use Rattle.mix_model.specs.declared.picture.Picture.{Picture}
use Rattle.mix_model.specs.Colours.{pixel_at}
use Rattle.mix_raster.proofs.Bands.{picture_is, picture_opaque}
use Rattle.mix_raster.proofs.Canvases.{written}
use Rattle.mix_raster.proofs.painting.paint.Goals as goal

-- the band is the whole picture
pub returns-clause-value : goal.returns-clause-value
returns-clause-value c =
    let canvas = c.args.canvas in
    let band = c.of-band.result in
    let new = c.paint_band.new.rgba in
    let whole : length new ≡ c.in_ok-rgba.rgba.len = omega arith in
    let long : length new ≡ 4 * (band.width * band.rows) =
    omega (arith, c.in_ok-rgba.ensures.length) in
    let made : List ℕ → Picture =
    λ rgba. record { width = canvas.0; height = canvas.1; rgba = rgba } in
    c.picture_of.ensures.value
    ∙ ap made (written c.in_ok-rgba.rgba.len new c.in_ok-rgba.rgba.items whole)
    ∙ picture_is c.args.shot.now c.args.tick canvas band new c.of-band.ensures.width
    c.of-band.ensures.top c.of-band.ensures.rows long c.in_ok-paint_band.ensures.painted

-- which is opaque
pub returns-clause-opaque : goal.returns-clause-opaque
returns-clause-opaque c = λ x y left up.
    let canvas = c.args.canvas in
    let new = c.paint_band.new.rgba in
    let whole : length new ≡ c.in_ok-rgba.rgba.len = omega arith in
    let made : List ℕ → Picture =
    λ rgba. record { width = canvas.0; height = canvas.1; rgba = rgba } in
    ap (λ picture. (pixel_at canvas.0 picture.rgba x y).alpha) (c.picture_of.ensures.value
    ∙ ap made (written c.in_ok-rgba.rgba.len new c.in_ok-rgba.rgba.items whole))
    ∙ picture_opaque c.args.shot.now c.args.tick canvas c.of-band.result new c.requires.shot
    c.of-band.ensures.width c.of-band.ensures.rows c.in_ok-paint_band.ensures.painted x y left up
