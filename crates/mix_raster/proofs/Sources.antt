-- What a draw lays over a pixel is the draw.
use Rattle.std.proofs.Common.{◌≡◌, ℕ, refl, ap, ◌∙◌, sym, Bool, true, false, Option, Some, None}
use Rattle.std.specs.Prelude.{◌&&◌, nat_lt, if◌then◌else◌}
use Rattle.mix_model.specs.declared.settings.Settings.{Settings}
use Rattle.mix_model.specs.declared.draw.Draw.{Draw}
use Rattle.mix_model.specs.declared.kind.Blend.{Blend}
use Rattle.mix_model.specs.Sizes.{size_of}
use Rattle.mix_model.specs.Colours.{Colour, clear}
use Rattle.mix_model.specs.Kinds.{pixel_of}
use Rattle.mix_model.specs.Blending.{over}
use Rattle.mix_model.specs.Placing.{Point}
use Rattle.mix_model.specs.Drawing.{is_inside, where_true, where_some, input_over}
use Rattle.mix_model.specs.Plans.{reached, draw_over, source_within, source_of}
use Rattle.mix_raster.specs.Axes.{axis_reached, exchanged}
use Rattle.mix_raster.specs.Spans.{cut}
use Rattle.mix_raster.specs.Ways.{across_side, down_side, column_led, row_led, met}
use Rattle.mix_raster.proofs.Apart.{crossing, steps_apart}
use Rattle.mix_raster.proofs.Channels.{over_clear}

-- an input's pixel within its size, by two tests
met_by : (settings : Settings) (since tick a b : ℕ) (swap p q : Bool) →
    (if p && q then pixel_of settings since tick (if swap then b else a) (if swap then a else b)
    else clear)
    ≡ met settings since tick swap (if p then Some a else None) (if q then Some b else None)
met_by settings since tick a b swap true true = refl
met_by settings since tick a b swap true false = refl
met_by settings since tick a b swap false q = refl

met_swapped : (settings : Settings) (since tick a b : ℕ) (p q : Bool) →
    (if q && p then pixel_of settings since tick b a else clear)
    ≡ met settings since tick true (if p then Some a else None) (if q then Some b else None)
met_swapped settings since tick a b true true = refl
met_swapped settings since tick a b true false = refl
met_swapped settings since tick a b false true = refl
met_swapped settings since tick a b false false = refl

-- nothing met without a row
met_nothing : (settings : Settings) (since tick : ℕ) (swap : Bool) (a : Option ℕ) →
    met settings since tick swap a None ≡ clear
met_nothing settings since tick swap (Some a) = refl
met_nothing settings since tick swap None = refl

met_is : (settings : Settings) (since tick : ℕ) (swap : Bool) (a b : Option ℕ) →
    source_within settings since tick (crossing swap a b)
    ≡ met settings since tick swap (cut (across_side swap (size_of settings (0, 0))) a)
    (cut (down_side swap (size_of settings (0, 0))) b)
met_is settings since tick false (Some a) (Some b) = met_by settings since tick a b false
    (nat_lt a (size_of settings (0, 0)).0) (nat_lt b (size_of settings (0, 0)).1)
met_is settings since tick true (Some a) (Some b) = met_swapped settings since tick a b
    (nat_lt a (size_of settings (0, 0)).1) (nat_lt b (size_of settings (0, 0)).0)
met_is settings since tick false (Some a) None = sym (met_nothing settings since tick false _)
met_is settings since tick true (Some a) None = sym (met_nothing settings since tick true _)
met_is settings since tick false None b = refl
met_is settings since tick true None b = refl

-- what a draw lays over a pixel, by where its column and its row lead to
pub source_led : (tick x y : ℕ) (draw : Draw) → source_of tick x y draw
    ≡ met draw.settings draw.since tick (exchanged draw.steps) (column_led draw x) (row_led draw y)
source_led tick x y draw =
    ap (source_within draw.settings draw.since tick) (steps_apart draw.steps x y)
    ∙ met_is draw.settings draw.since tick (exchanged draw.steps)
    (axis_reached false draw.steps x) (axis_reached true draw.steps y)

-- an input over what is below, by the test of its size
tested_over : (settings : Settings) (since tick u v : ℕ) (blend : Blend) (below : Colour)
    (p : Bool) →
    over blend (if p then pixel_of settings since tick u v else clear) below
    ≡ where_true p (over blend (pixel_of settings since tick u v)) below
tested_over settings since tick u v blend below true = refl
tested_over settings since tick u v blend below false = over_clear blend below

source_over : (settings : Settings) (since tick : ℕ) (blend : Blend) (o : Option Point)
    (below : Colour) → over blend (source_within settings since tick o) below
    ≡ where_some o (input_over settings since tick blend) below
source_over settings since tick blend None below = over_clear blend below
source_over settings since tick blend (Some p) below = tested_over settings since tick p.0 p.1
    blend below (is_inside (size_of settings (0, 0)) p.0 p.1)

-- to draw is to lay the pixel of the draw over what is below
pub draw_is_over : (tick x y : ℕ) (below : Colour) (draw : Draw) →
    over draw.blend (source_of tick x y draw) below ≡ draw_over tick x y below draw
draw_is_over tick x y below draw =
    source_over draw.settings draw.since tick draw.blend (reached draw.steps x y) below

-- a draw leaves what is below where it lays nothing over it
unseen : (tick x y : ℕ) (below : Colour) (draw : Draw) → source_of tick x y draw ≡ clear →
    draw_over tick x y below draw ≡ below
unseen tick x y below draw is = sym (draw_is_over tick x y below draw)
    ∙ ap (λ s. over draw.blend s below) is ∙ over_clear draw.blend below

pub unseen_column : (tick x y : ℕ) (below : Colour) (draw : Draw) → column_led draw x ≡ None →
    draw_over tick x y below draw ≡ below
unseen_column tick x y below draw is = unseen tick x y below draw (source_led tick x y draw
    ∙ ap (λ a. met draw.settings draw.since tick (exchanged draw.steps) a (row_led draw y)) is)

pub unseen_row : (tick x y : ℕ) (below : Colour) (draw : Draw) → row_led draw y ≡ None →
    draw_over tick x y below draw ≡ below
unseen_row tick x y below draw is = unseen tick x y below draw (source_led tick x y draw
    ∙ ap (λ b. met draw.settings draw.since tick (exchanged draw.steps) (column_led draw x) b) is
    ∙ met_nothing draw.settings draw.since tick (exchanged draw.steps) (column_led draw x))
