use Rattle.std.proofs.Common.{rules, ◌≡◌, ℕ, List, ◌∙◌, sym, subst, length, arith}
use Rattle.mix_model.specs.Colours.{pixel_at}
use Rattle.mix_model.specs.Blending.{faded_colour}
use Rattle.mix_raster.specs.Fills.{IsFilled}
use Rattle.mix_raster.proofs.Canvases.{written}
use Rattle.mix_raster.proofs.mixing.mix_pictures.Goals as goal

-- byte by byte, and so pixel by pixel
pub returns-clause-pixels : goal.returns-clause-pixels
returns-clause-pixels c =
    let from = c.args.from.now in
    let to = c.args.to.now in
    let new = c.fade_canvas.new.rgba in
    let whole : length new ≡ c.in_ok-rgba.rgba.len = omega arith in
    let is : c.from_vec.result ≡ new =
    c.from_vec.ensures.value ∙ written c.in_ok-rgba.rgba.len new c.in_ok-rgba.rgba.items whole in
    let first : c.as_mut_slice.result.now ≡ from.rgba = search rules in
    let second : c.as_slice-2.result.now ≡ to.rgba = search rules in
    let P : List ℕ → Type 0 = λ bytes. IsFilled (from.width, from.height) bytes (λ x y.
    faded_colour c.args.t c.args.n (pixel_at from.width from.rgba x y)
    (pixel_at from.width to.rgba x y)) in
    let Q : List ℕ → Type 0 = λ bytes. IsFilled (from.width, from.height) new (λ x y.
    faded_colour c.args.t c.args.n (pixel_at from.width bytes x y)
    (pixel_at from.width c.as_slice-2.result.now x y)) in
    let R : List ℕ → Type 0 = λ bytes. IsFilled (from.width, from.height) new (λ x y.
    faded_colour c.args.t c.args.n (pixel_at from.width from.rgba x y)
    (pixel_at from.width bytes x y)) in
    subst P (sym is) (subst R second (subst Q first c.fade_canvas.ensures.faded))
