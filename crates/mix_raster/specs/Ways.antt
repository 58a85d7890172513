-- Where the columns and the rows of a band lead in the source of a draw.
use Rattle.std.specs.Prelude.{ℕ, ◌+◌, ◌*◌, ◌<◌, ◌≤◌, ◌≡◌, Bool, true, false, if◌then◌else◌}
use Rattle.std.specs.Prelude.{Option, Some, List, length, take, get_or, IsTrue}
use Rattle.mix_model.specs.declared.settings.Settings.{Settings}
use Rattle.mix_model.specs.declared.draw.Draw.{Draw}
use Rattle.mix_model.specs.declared.kind.Blend.TheVariants.{Normal}
use Rattle.mix_model.specs.Sizes.{size_of}
use Rattle.mix_model.specs.Colours.{Colour, clear, colour_at}
use Rattle.mix_model.specs.Kinds.{pixel_of}
use Rattle.mix_raster.specs.declared.band.Band.{Band}
use Rattle.mix_raster.specs.declared.fill.Shown.{Shown}
use Rattle.mix_raster.specs.declared.lead.Lead.{Lead}
use Rattle.mix_raster.specs.declared.way.Way.{Way}
use Rattle.mix_raster.specs.Axes.{axis_reached, exchanged}
use Rattle.mix_raster.specs.Spans.{cut, AreRepeated, Leads}

-- the side of a source that columns lead along, and the one that rows lead along
abbrev pub across_side : Bool → ℕ × ℕ → ℕ
across_side swap size = if swap then size.1 else size.0

abbrev pub down_side : Bool → ℕ × ℕ → ℕ
down_side swap size = if swap then size.0 else size.1

-- where a column of the canvas leads in the source of a draw
abbrev pub column_led : Draw → ℕ → Option ℕ
column_led draw x = cut (across_side (exchanged draw.steps) (size_of draw.settings (0, 0)))
    (axis_reached false draw.steps x)

-- and a row
abbrev pub row_led : Draw → ℕ → Option ℕ
row_led draw y = cut (down_side (exchanged draw.steps) (size_of draw.settings (0, 0)))
    (axis_reached true draw.steps y)

-- the colour of an input where a column leads to in the line that a row leads to
abbrev pub pixel_led : Settings → ℕ → ℕ → Bool → ℕ → ℕ → Colour
pixel_led settings since tick swap a b =
    pixel_of settings since tick (if swap then b else a) (if swap then a else b)

-- which pixel of a raster that is
abbrev pub place_led : ℕ → Bool → ℕ → ℕ → ℕ
place_led width swap a b = (if swap then a else b) * width + (if swap then b else a)

-- the same, or what changes nothing where one of them leads nowhere
abbrev pub met : Settings → ℕ → ℕ → Bool → Option ℕ → Option ℕ → Colour
met settings since tick swap (Some a) (Some b) = pixel_led settings since tick swap a b
met settings since tick swap _ _ = clear

-- what the columns, or rows, that lead somewhere lead to
abbrev pub places_of : Lead → List ℕ
places_of lead = take lead.count lead.table.items

-- the way of a draw over a band: where its columns and its rows lead, and whether they are exchanged
pub record IsLed (way : Way) (draw : Draw) (band : Band) : Type 0 where
  pub columns : Leads (column_led draw) 0 band.width way.across.first (places_of way.across)
  pub rows : Leads (row_led draw) band.top band.rows way.down.first (places_of way.down)
  pub swap : way.swap ≡ exchanged draw.steps
  pub repeated : AreRepeated way.times (places_of way.across)
  pub across : way.across.count ≤ length way.across.table.items
  pub down : way.down.count ≤ length way.down.table.items

-- columns and a line that lie within an input
pub record AreWithin (settings : Settings) (swap : Bool) (columns : List ℕ) (line : ℕ) : Type 0 where
  pub across : (i : ℕ) → i < length columns →
      get_or columns i 0 < across_side swap (size_of settings (0, 0))
  pub down : line < down_side swap (size_of settings (0, 0))

-- a row that shows these columns of a line of a draw's source
pub record Shows (draw : Draw) (tick : ℕ) (swap : Bool) (columns : List ℕ) (line : ℕ)
    (row : List ℕ) : Type 0 where
  pub shown : (i : ℕ) → i < length columns → colour_at row (4 * i)
      ≡ pixel_led draw.settings draw.since tick swap (get_or columns i 0) line

-- what is said of such a row: which line it shows, and whether it hides what it lies over
pub record IsShown (draw : Draw) (tick : ℕ) (swap : Bool) (columns row : List ℕ)
    (shown : Shown) : Type 0 where
  pub shows : Shows draw tick swap columns shown.line row
  pub normal : IsTrue shown.hides → draw.blend ≡ Normal
  pub opaque : IsTrue shown.hides → (i : ℕ) → i < length columns →
      (colour_at row (4 * i)).alpha ≡ 255
