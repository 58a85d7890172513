-- Squares of four pixels.
use Rattle.std.proofs.Common.{◌≡◌, ℕ, ◌+◌, ◌*◌, ◌/◌, ◌%◌, ◌<◌, List, ap, ◌∙◌, arith}
use Rattle.mix_model.specs.declared.picture.Picture.{Picture}
use Rattle.mix_model.specs.Colours.{Colour, colour_at}
use Rattle.mix_model.specs.Encoding.{mean_colour, pixel_in, square_colour}

-- the mean of four colours that are known under other names
same_mean : (a b c d a' b' c' d' : Colour) → a ≡ a' → b ≡ b' → c ≡ c' → d ≡ d' →
    mean_colour a b c d ≡ mean_colour a' b' c' d'
same_mean a b c d a' b' c' d' p q r s = ap (λ z. mean_colour z b c d) p
    ∙ ap (λ z. mean_colour a' z c d) q
    ∙ ap (λ z. mean_colour a' b' z d) r
    ∙ ap (λ z. mean_colour a' b' c' z) s

-- a square of which the two rows are known, each pixel of them
pub square_met : (picture : Picture) (x y at : ℕ) (upper lower : List ℕ) →
    at ≡ 8 * x → 2 * x + 1 < picture.width →
    ((k : ℕ) → k < picture.width → colour_at upper (4 * k) ≡ pixel_in picture k (2 * y)) →
    ((k : ℕ) → k < picture.width → colour_at lower (4 * k) ≡ pixel_in picture k (2 * y + 1)) →
    mean_colour (colour_at upper at) (colour_at upper (at + 4)) (colour_at lower at)
    (colour_at lower (at + 4)) ≡ square_colour picture x y
square_met picture x y at upper lower is inside above below =
    let left : at ≡ 4 * (2 * x) = omega (arith, is) in
    let right : at + 4 ≡ 4 * (2 * x + 1) = omega (arith, is) in
    same_mean _ _ _ _ _ _ _ _
    (ap (colour_at upper) left ∙ above (2 * x) (omega arith))
    (ap (colour_at upper) right ∙ above (2 * x + 1) (omega arith))
    (ap (colour_at lower) left ∙ below (2 * x) (omega arith))
    (ap (colour_at lower) right ∙ below (2 * x + 1) (omega arith))

-- four pixels for each square
pub squares_fill : (width height : ℕ) → width % 2 ≡ 0 → height % 2 ≡ 0 →
    width * height ≡ 4 * (width / 2 * (height / 2))
squares_fill width height even_width even_height =
    let w : width ≡ 2 * (width / 2) = omega (arith, even_width) in
    let h : height ≡ 2 * (height / 2) = omega (arith, even_height) in
    let four : 2 * (width / 2) * (2 * (height / 2)) ≡ 4 * (width / 2 * (height / 2)) =
    grind arith in
    ap (λ n. n * height) w ∙ ap (λ n. 2 * (width / 2) * n) h ∙ four
