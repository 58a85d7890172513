-- A draw that covers a band with opaque pixels hides what lies below it.
use Rattle.std.proofs.Common.{◌≡◌, ℕ, zero, suc, ◌<◌, ◌≤◌, ◌+◌, ◌*◌, List, [], ◌∷◌, drop, length, get_or}
use Rattle.std.specs.Prelude.{ℤ, Option, None, IsSome, if◌then◌else◌}
use Rattle.std.proofs.Common.{Bool, true, false, Some, IsTrue, nat_lt, arith, refl, ap, sym, ◌∙◌}
use Rattle.std.proofs.lemmas.Bool.Decides.{nat_tests}
use Rattle.mix_model.specs.declared.settings.Settings.{Settings}
use Rattle.mix_model.specs.declared.settings.Settings.TheVariants.{Color, Checker, Scroll, Raster}
use Rattle.mix_model.specs.declared.draw.Draw.{Draw}
use Rattle.mix_model.specs.declared.kind.Blend.{Blend}
use Rattle.mix_model.specs.declared.kind.Blend.TheVariants.{Normal}
use Rattle.mix_model.specs.Colours.{Colour, black, colour_at, colour_of_number}
use Rattle.mix_model.specs.Kinds.{pixel_of, striped}
use Rattle.mix_model.specs.Sizes.{size_of}
use Rattle.mix_model.specs.Drawing.{is_inside}
use Rattle.mix_model.specs.Blending.{covering, over}
use Rattle.mix_model.specs.Plans.{draw_over, draws_over, source_of}
use Rattle.mix_model.specs.Values.{are_valid}
use Rattle.mix_sources.proofs.ValidLemmas.{raster_point}
use Rattle.mix_raster.specs.declared.band.Band.{Band}
use Rattle.mix_raster.specs.Axes.{exchanged}
use Rattle.mix_raster.specs.Spans.{cut}
use Rattle.mix_raster.specs.Ways.{across_side, down_side, column_led, row_led, met}
use Rattle.mix_raster.specs.Hiding.{Hides, IsSeenFrom}
use Rattle.mix_raster.proofs.Sources.{source_led, draw_is_over}
use Rattle.mix_raster.proofs.Opaque.{draws_keep}

full_covers : (f d : ℕ) → covering f 255 d ≡ f
full_covers f d = omega arith

pub over_full : (s d : Colour) → s.alpha ≡ 255 → over Normal s d
    ≡ record { red = s.red; green = s.green; blue = s.blue; alpha = d.alpha }
over_full s d whole =
    let weighed : ℕ → Colour = λ a. record {
      red = covering s.red a d.red;
      green = covering s.green a d.green;
      blue = covering s.blue a d.blue;
      alpha = d.alpha;
    } in
    ap weighed whole ∙ rw (
      full_covers s.red d.red,
      full_covers s.green d.green,
      full_covers s.blue d.blue,
    ) refl

over_same : (s below other : Colour) → s.alpha ≡ 255 → below.alpha ≡ other.alpha →
    over Normal s below ≡ over Normal s other
over_same s below other whole same =
    let opaque : ℕ → Colour =
    λ a. record { red = s.red; green = s.green; blue = s.blue; alpha = a } in
    over_full s below whole ∙ ap opaque same ∙ sym (over_full s other whole)

-- an opaque colour over an opaque one, in the normal mode, is just that colour
pub over_opaque : (blend : Blend) (s d : Colour) → blend ≡ Normal → s.alpha ≡ 255 →
    d.alpha ≡ 255 → s ≡ over blend s d
over_opaque blend s d normal whole below =
    let opaque : ℕ → Colour =
    λ a. record { red = s.red; green = s.green; blue = s.blue; alpha = a } in
    ap opaque (whole ∙ sym below) ∙ sym (over_full s d whole) ∙ ap (λ mode. over mode s d) (sym normal)

-- what is within its side
pub cut_some : (side a : ℕ) (o : Option ℕ) → cut side o ≡ Some a → a < side
cut_some side a None is = cc
cut_some side a (Some b) is = by_test (nat_lt b side) refl is where
  by_test : (p : Bool) → nat_lt b side ≡ p → (if p then Some b else None) ≡ Some a → a < side
  by_test true small is =
      let same : b ≡ a = cc in let below : b < side = grind (arith, nat_tests) in omega arith
  by_test false small is = cc

-- a draw all of whose pixels are opaque, where it shows something
module _ (tick x y : ℕ) (draw : Draw) (a b : ℕ) (column : column_led draw x ≡ Some a)
    (line : row_led draw y ≡ Some b) (normal : draw.blend ≡ Normal)
    (opaque : (since tick u v : ℕ) → IsTrue (is_inside (size_of draw.settings (0, 0)) u v) →
    (pixel_of draw.settings since tick u v).alpha ≡ 255) where
  whole : (swap : Bool) → a < across_side swap (size_of draw.settings (0, 0)) →
      b < down_side swap (size_of draw.settings (0, 0)) →
      (met draw.settings draw.since tick swap (Some a) (Some b)).alpha ≡ 255
  whole true left up = opaque draw.since tick b a (grind (arith, nat_tests))
  whole false left up = opaque draw.since tick a b (grind (arith, nat_tests))

  source_whole : (source_of tick x y draw).alpha ≡ 255
  source_whole =
      let swap : Bool = exchanged draw.steps in
      ap (λ s. s.alpha) (source_led tick x y draw
      ∙ ap (λ o. met draw.settings draw.since tick swap o (row_led draw y)) column
      ∙ ap (λ o. met draw.settings draw.since tick swap (Some a) o) line)
      ∙ whole swap (cut_some _ a _ column) (cut_some _ b _ line)

  hides : (below other : Colour) → below.alpha ≡ other.alpha →
      draw_over tick x y below draw ≡ draw_over tick x y other draw
  hides below other same = sym (draw_is_over tick x y below draw)
      ∙ ap (λ blend. over blend (source_of tick x y draw) below) normal
      ∙ over_same (source_of tick x y draw) below other source_whole same
      ∙ sym (ap (λ blend. over blend (source_of tick x y draw) other) normal)
      ∙ draw_is_over tick x y other draw

some_is : (o : Option ℕ) → IsSome o → (a : ℕ) × (o ≡ Some a)
some_is None is = cc
some_is (Some a) is = (a, refl)

-- so it hides what lies below it where each column and row leads to it
pub all_hidden : (draw : Draw) (band : Band) → draw.blend ≡ Normal →
    ((x : ℕ) → x < band.width → IsSome (column_led draw x)) →
    ((y : ℕ) → y < band.rows → IsSome (row_led draw (band.top + y))) →
    ((since tick u v : ℕ) → IsTrue (is_inside (size_of draw.settings (0, 0)) u v) →
    (pixel_of draw.settings since tick u v).alpha ≡ 255) → Hides draw band
all_hidden draw band normal columns rows opaque = record {
  hidden = λ tick x y below other left up same.
      let column = some_is (column_led draw x) (columns x left) in
      let line = some_is (row_led draw (band.top + y)) (rows y up) in
      hides tick x (band.top + y) draw column.0 line.0 column.1 line.1 normal opaque below other same;
}

-- the draws below one that hides them don't count
from_hiding : (tick x y k : ℕ) (draws : List Draw) (d : Draw) (one below : Colour) →
    k < length draws → one.alpha ≡ below.alpha →
    ((one other : Colour) → one.alpha ≡ other.alpha →
    draw_over tick x y one (get_or draws k d) ≡ draw_over tick x y other (get_or draws k d)) →
    draws_over tick x y one (drop k draws) ≡ draws_over tick x y below draws
from_hiding tick x y zero (draw ∷ draws) d one below h same hides =
    ap (λ c. draws_over tick x y c draws) (hides one below same)
from_hiding tick x y (suc k) (draw ∷ draws) d one below h same hides =
    from_hiding tick x y k draws d one (draw_over tick x y below draw) (omega arith)
    (same ∙ sym (draws_keep tick x y (draw ∷ []) below)) hides
from_hiding tick x y k [] d one below h same hides = absurd (omega arith)

pub seen_from : (draws : List Draw) (band : Band) (k : ℕ) (d : Draw) → k < length draws →
    Hides (get_or draws k d) band → IsSeenFrom draws band k
seen_from draws band k d small hiding = record {
  within = small;
  seen = λ tick x y below left up whole.
      from_hiding tick x (band.top + y) k draws d below black small whole
      (λ one other same. hiding.hidden tick x y one other left up same);
}

-- inputs that are opaque
pub color_opaque : (s : Settings) (color width height : ℕ) → s ≡ Color color width height →
    (colour_of_number color).alpha ≡ 255 → (since tick u v : ℕ) →
    (pixel_of s since tick u v).alpha ≡ 255
color_opaque s color width height is full since tick u v =
    ap (λ t. (pixel_of t since tick u v).alpha) is ∙ full

striped_full : (even : Bool) (a b : ℕ) → (colour_of_number a).alpha ≡ 255 →
    (colour_of_number b).alpha ≡ 255 → (colour_of_number (striped even a b)).alpha ≡ 255
striped_full true a b one other = one
striped_full false a b one other = other

pub checker_opaque : (s : Settings) (a b cell width height : ℕ) →
    s ≡ Checker a b cell width height → (colour_of_number a).alpha ≡ 255 →
    (colour_of_number b).alpha ≡ 255 → (since tick u v : ℕ) →
    (pixel_of s since tick u v).alpha ≡ 255
checker_opaque s a b cell width height is one other since tick u v =
    ap (λ t. (pixel_of t since tick u v).alpha) is ∙ striped_full _ a b one other

pub raster_opaque : (s : Settings) (pixels : List ℕ) (width height : ℕ) →
    IsTrue (are_valid s) → s ≡ Raster pixels width height →
    ((k : ℕ) → 4 * k + 4 ≤ length pixels → (colour_at pixels (4 * k)).alpha ≡ 255) →
    (since tick u v : ℕ) → IsTrue (is_inside (size_of s (0, 0)) u v) →
    (pixel_of s since tick u v).alpha ≡ 255
raster_opaque s pixels width height valid is full since tick u v inside =
    let point = raster_point u v s pixels width height valid inside is in
    ap (λ t. (pixel_of t since tick u v).alpha) is ∙ full (v * width + u) point.3

pub scroll_opaque : (s : Settings) (a b bar : ℕ) (speed : ℤ) (width height : ℕ) →
    s ≡ Scroll a b bar speed width height → (colour_of_number a).alpha ≡ 255 →
    (colour_of_number b).alpha ≡ 255 → (since tick u v : ℕ) →
    (pixel_of s since tick u v).alpha ≡ 255
scroll_opaque s a b bar speed width height is one other since tick u v =
    ap (λ t. (pixel_of t since tick u v).alpha) is ∙ striped_full _ a b one other
