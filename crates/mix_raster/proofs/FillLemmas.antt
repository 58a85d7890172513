-- What a row shows of a source.
use Rattle.std.proofs.Common.{◌≡◌, ℕ, ◌<◌, ◌≤◌, ◌+◌, ◌*◌, ◌/◌, ◌%◌, List, length, get_or, ap, ◌∙◌, sym}
use Rattle.std.proofs.Common.{Bool, true, false, IsTrue, arith, ℤ}
use Rattle.std.specs.Prelude.{◌==◌, if◌then◌else◌}
use Rattle.std.proofs.lemmas.Bool.Decides.{nat_tests}
use Rattle.mix_model.specs.declared.settings.Settings.{Settings}
use Rattle.mix_model.specs.declared.settings.Settings.TheVariants.{Color, Checker, Scroll, Raster}
use Rattle.mix_model.specs.declared.draw.Draw.{Draw}
use Rattle.mix_model.specs.Colours.{bytes_of, colour_at, colour_of_number}
use Rattle.mix_model.specs.Kinds.{striped, checker_even}
use Rattle.mix_model.specs.Drawing.{is_inside}
use Rattle.mix_model.specs.Sizes.{size_of}
use Rattle.mix_model.specs.Values.{are_valid}
use Rattle.mix_sources.proofs.ValidLemmas.{raster_point}
use Rattle.mix_raster.specs.Axes.{axis_reached, exchanged}
use Rattle.mix_raster.specs.declared.band.Band.{Band}
use Rattle.mix_raster.specs.declared.way.Way.{Way}
use Rattle.mix_raster.specs.Ways.{across_side, down_side, pixel_led, place_led}
use Rattle.mix_raster.specs.Ways.{places_of, AreWithin, IsLed, Shows}
use Rattle.mix_raster.proofs.HidingLemmas.{cut_some}
use Rattle.mix_raster.proofs.Rows.{colour_by_bytes}
use Rattle.std.proofs.Common.{subst}
use Rattle.std.proofs.lemmas.List.{length-take-le}

-- the point of a source that a column and a row lead to
pub inside_led : (size : ℕ × ℕ) (swap : Bool) (a b : ℕ) → a < across_side swap size →
    b < down_side swap size →
    is_inside size (if swap then b else a) (if swap then a else b) ≡ true
inside_led size true a b left up = grind (arith, nat_tests)
inside_led size false a b left up = grind (arith, nat_tests)

-- pixels of a raster
pub raster_led : (s : Settings) (pixels : List ℕ) (width height : ℕ) (swap : Bool) (a b : ℕ) →
    IsTrue (are_valid s) → s ≡ Raster pixels width height →
    a < across_side swap (size_of s (0, 0)) → b < down_side swap (size_of s (0, 0)) →
    (width ≤ 4096) × (4 * place_led width swap a b + 4 ≤ length pixels)
raster_led s pixels width height swap a b valid is left up =
    let point = raster_point (if swap then b else a) (if swap then a else b) s pixels width height
    valid (inside_led (size_of s (0, 0)) swap a b left up) is in (point.2, point.3)

line_small : (s : Settings) (swap : Bool) (b : ℕ) (pixels : List ℕ) (width height : ℕ) →
    s ≡ Raster pixels width height → width ≤ 4096 → height ≤ 4096 →
    b < down_side swap (size_of s (0, 0)) → b < 4096
line_small s true b pixels width height is wide high up =
    let h : b < width = subst (λ (t : Settings). b < (size_of t (0, 0)).0) is up in omega arith
line_small s false b pixels width height is wide high up =
    let h : b < height = subst (λ (t : Settings). b < (size_of t (0, 0)).1) is up in omega arith

pub raster_pixel : (s : Settings) (pixels : List ℕ) (width height since tick : ℕ) (swap : Bool)
    (a b : ℕ) → s ≡ Raster pixels width height →
    colour_at pixels (4 * place_led width swap a b) ≡ pixel_led s since tick swap a b
raster_pixel s pixels width height since tick swap a b is =
    sym (ap (λ t. pixel_led t since tick swap a b) is)

-- lines that are all of one colour
pub color_plain : (s : Settings) (color width height : ℕ) (swap : Bool) →
    s ≡ Color color width height → (since tick a b c d : ℕ) →
    pixel_led s since tick swap a b ≡ pixel_led s since tick swap c d
color_plain s color width height swap is since tick a b c d =
    ap (λ t. pixel_led t since tick swap a b) is
    ∙ sym (ap (λ t. pixel_led t since tick swap c d) is)

pub scroll_plain : (s : Settings) (x y bar : ℕ) (speed : ℤ) (width height : ℕ) →
    s ≡ Scroll x y bar speed width height → (since tick line a b : ℕ) →
    pixel_led s since tick true a line ≡ pixel_led s since tick true b line
scroll_plain s x y bar speed width height is since tick line a b =
    ap (λ t. pixel_led t since tick true a line) is
    ∙ sym (ap (λ t. pixel_led t since tick true b line) is)

-- lines that are alike
pub scroll_alike : (s : Settings) (x y bar : ℕ) (speed : ℤ) (width height : ℕ) →
    s ≡ Scroll x y bar speed width height → (since tick a one other : ℕ) →
    pixel_led s since tick false a one ≡ pixel_led s since tick false a other
scroll_alike s x y bar speed width height is since tick a one other =
    ap (λ t. pixel_led t since tick false a one) is
    ∙ sym (ap (λ t. pixel_led t since tick false a other) is)

even_alike : (a b c : ℕ) → b % 2 ≡ c % 2 → (a + b) % 2 ≡ (a + c) % 2
even_alike a b c same = omega arith

even_turned : (a b c : ℕ) → b % 2 ≡ c % 2 → (b + a) % 2 ≡ (c + a) % 2
even_turned a b c same = omega arith

checker_parity : (cell : ℕ) (swap : Bool) (a one other : ℕ) →
    one / cell % 2 ≡ other / cell % 2 →
    checker_even cell (if swap then one else a) (if swap then a else one)
    ≡ checker_even cell (if swap then other else a) (if swap then a else other)
checker_parity cell true a one other same =
    ap (λ (n : ℕ). n == 0) (even_turned (a / cell) (one / cell) (other / cell) same)
checker_parity cell false a one other same =
    ap (λ (n : ℕ). n == 0) (even_alike (a / cell) (one / cell) (other / cell) same)

pub checker_alike : (s : Settings) (x y cell width height : ℕ) (swap : Bool) (one other : ℕ) →
    s ≡ Checker x y cell width height → one / cell % 2 ≡ other / cell % 2 →
    (since tick a : ℕ) → pixel_led s since tick swap a one ≡ pixel_led s since tick swap a other
checker_alike s x y cell width height swap one other is same since tick a =
    ap (λ t. pixel_led t since tick swap a one) is
    ∙ ap (λ even. colour_of_number (striped even x y)) (checker_parity cell swap a one other same)
    ∙ sym (ap (λ t. pixel_led t since tick swap a other) is)

-- a row that is filled with one pixel of a plain line
pub plain_shows : (draw : Draw) (tick : ℕ) (swap : Bool) (columns : List ℕ) (line : ℕ)
    (color row : List ℕ) → ((i : ℕ) → i < length columns → bytes_of (colour_at row (4 * i)) ≡ color) →
    color ≡ bytes_of (pixel_led draw.settings draw.since tick swap (get_or columns 0 0) line) →
    ((a b : ℕ) → pixel_led draw.settings draw.since tick swap a line
    ≡ pixel_led draw.settings draw.since tick swap b line) →
    Shows draw tick swap columns line row
plain_shows draw tick swap columns line color row filled is plain = record {
  shown = λ i small. colour_by_bytes _ _ (filled i small ∙ is)
      ∙ plain (get_or columns 0 0) (get_or columns i 0);
}

-- where the columns and the rows of a way lead is within the source
pub led_within : (draw : Draw) (way : Way) (band : Band) (i : ℕ) → IsLed way draw band →
    i < way.down.count →
    AreWithin draw.settings way.swap (places_of way.across) (get_or (places_of way.down) i 0)
led_within draw way band i led small = record {
  across = λ k fits. column (sym led.swap) k fits;
  down = row (sym led.swap);
} where
  rows : length (places_of way.down) ≡ way.down.count
  rows = length-take-le way.down.count way.down.table.items led.down

  column : exchanged draw.steps ≡ way.swap → (k : ℕ) → k < length (places_of way.across) →
      get_or (places_of way.across) k 0 < across_side way.swap (size_of draw.settings (0, 0))
  column swap k fits =
      let P : Bool → Type 0 = λ s.
      get_or (places_of way.across) k 0 < across_side s (size_of draw.settings (0, 0)) in
      subst P swap (cut_some (across_side (exchanged draw.steps) (size_of draw.settings (0, 0)))
      (get_or (places_of way.across) k 0) (axis_reached false draw.steps (0 + (way.across.first + k)))
      (led.columns.inside k fits))

  row : exchanged draw.steps ≡ way.swap → get_or (places_of way.down) i 0
      < down_side way.swap (size_of draw.settings (0, 0))
  row swap =
      let P : Bool → Type 0 = λ s.
      get_or (places_of way.down) i 0 < down_side s (size_of draw.settings (0, 0)) in
      subst P swap (cut_some (down_side (exchanged draw.steps) (size_of draw.settings (0, 0)))
      (get_or (places_of way.down) i 0)
      (axis_reached true draw.steps (band.top + (way.down.first + i)))
      (led.rows.inside i (omega (arith, rows))))

-- squares have a side
checker_cell : (a b cell width height : ℕ) →
    are_valid (Checker a b cell width height) ≡ true → 0 < cell
unfolding are_valid
checker_cell a b cell width height h = grind (arith, nat_tests)

pub some_cell : (s : Settings) (a b cell width height : ℕ) → IsTrue (are_valid s) →
    s ≡ Checker a b cell width height → 0 < cell
some_cell s a b cell width height valid is =
    checker_cell a b cell width height (ap are_valid (sym is) ∙ valid)

-- a raster is no wider than 4096, and neither has it more rows
raster_sides : (pixels : List ℕ) (width height : ℕ) →
    are_valid (Raster pixels width height) ≡ true → (width ≤ 4096) × (height ≤ 4096)
unfolding are_valid
raster_sides pixels width height h = (grind (arith, nat_tests), grind (arith, nat_tests))

pub raster_small : (s : Settings) (swap : Bool) (b : ℕ) (pixels : List ℕ) (width height : ℕ) →
    IsTrue (are_valid s) → s ≡ Raster pixels width height →
    b < down_side swap (size_of s (0, 0)) → (b < 4096) × (width ≤ 4096)
raster_small s swap b pixels width height valid is up =
    let sides = raster_sides pixels width height (ap are_valid (sym is) ∙ valid) in
    (line_small s swap b pixels width height is sides.0 sides.1 up, sides.0)
