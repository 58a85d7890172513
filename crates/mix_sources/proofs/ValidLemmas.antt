-- Which numbers stand in valid settings.
use Rattle.std.proofs.Common.{◌≡◌, ℕ, ◌+◌, ◌*◌, ◌<◌, ◌≤◌, true, List, length, arith, ◌∙◌}
use Rattle.std.proofs.Common.{ℤ, negsuc, pos, ◌≤ℤ◌, ap, sym}
use Rattle.std.proofs.lemmas.Bool.Decides.{nat_tests}
use Rattle.std.proofs.lemmas.Int.{ints}
use Rattle.std.proofs.lemmas.Nat.{mul-le}
use Rattle.mix_model.specs.declared.settings.Settings.{Settings}
use Rattle.mix_model.specs.declared.settings.Settings.TheVariants.{Checker, Scroll, Raster}
use Rattle.mix_model.specs.Drawing.{is_inside}
use Rattle.mix_model.specs.Sizes.{size_of}
use Rattle.mix_model.specs.Values.{are_valid}

checker_parts : (a b cell width height : ℕ) →
    are_valid (Checker a b cell width height) ≡ true →
    (0 < cell) × (width ≤ 4096) × (height ≤ 4096)
unfolding are_valid
checker_parts a b cell width height h = grind (arith, nat_tests)

bar_parts : (a b bar : ℕ) (speed : ℤ) (width height : ℕ) →
    are_valid (Scroll a b bar speed width height) ≡ true →
    (0 < bar) × (negsuc 63 ≤ℤ speed) × (speed ≤ℤ pos 64)
unfolding are_valid
bar_parts a b bar speed width height h = grind (arith, nat_tests, ints)

raster_parts : (pixels : List ℕ) (width height : ℕ) →
    are_valid (Raster pixels width height) ≡ true →
    (width ≤ 4096) × (height ≤ 4096) × (length pixels ≡ 4 * (width * height))
unfolding are_valid
raster_parts pixels width height h = grind (arith, nat_tests)

inside_parts : (width height u v : ℕ) → is_inside (width, height) u v ≡ true →
    (u < width) × (v < height)
inside_parts width height u v h = grind (arith, nat_tests)

-- squares have a side, and the point is no further out than a side can be
pub checker_point : (u v : ℕ) (s : Settings) (a b cell width height : ℕ) →
    are_valid s ≡ true → is_inside (size_of s (0, 0)) u v ≡ true →
    s ≡ Checker a b cell width height → (0 < cell) × (u < 4096) × (v < 4096)
checker_point u v s a b cell width height valid inside is =
    let parts = checker_parts a b cell width height (ap are_valid (sym is) ∙ valid) in
    let within = inside_parts width height u v
    (ap (λ t. is_inside (size_of t (0, 0)) u v) (sym is) ∙ inside) in
    (parts.0, omega arith, omega arith)

-- bars have a width and are slow
pub scroll_parts : (s : Settings) (a b bar : ℕ) (speed : ℤ) (width height : ℕ) →
    are_valid s ≡ true → s ≡ Scroll a b bar speed width height →
    (0 < bar) × (negsuc 63 ≤ℤ speed) × (speed ≤ℤ pos 64)
scroll_parts s a b bar speed width height valid is =
    bar_parts a b bar speed width height (ap are_valid (sym is) ∙ valid)

-- a place in a row of pixels, four bytes before the end or further
row_before : (u v width height : ℕ) → u < width → v < height →
    v * width + u < width * height
row_before u v width height column row =
    let rows : (v + 1) * width ≤ height * width = mul-le (v + 1) width height width (omega arith)
    (omega arith) in
    let sum : (v + 1) * width ≡ v * width + width = grind arith in
    let turned : height * width ≡ width * height = grind arith in
    omega arith

-- a raster has the bytes of each pixel
pub raster_point : (u v : ℕ) (s : Settings) (pixels : List ℕ) (width height : ℕ) →
    are_valid s ≡ true → is_inside (size_of s (0, 0)) u v ≡ true →
    s ≡ Raster pixels width height →
    (u < 4096) × (v < 4096) × (width ≤ 4096)
    × (4 * (v * width + u) + 4 ≤ length pixels)
raster_point u v s pixels width height valid inside is =
    let parts = raster_parts pixels width height (ap are_valid (sym is) ∙ valid) in
    let within = inside_parts width height u v
    (ap (λ t. is_inside (size_of t (0, 0)) u v) (sym is) ∙ inside) in
    let before = row_before u v width height within.0 within.1 in
    (omega arith, omega arith, parts.0, omega arith)
