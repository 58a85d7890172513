-- Bytes that have a colour at each pixel of a band, or of a whole canvas.
use Rattle.std.specs.Prelude.{ℕ, ◌+◌, ◌*◌, ◌^◌, ◌<◌, ◌≡◌, List, length, IsTrue}
use Rattle.mix_model.specs.declared.draw.Draw.{Draw}
use Rattle.mix_model.specs.declared.draw.Shot.{Shot}
use Rattle.mix_model.specs.Colours.{Colour, pixel_at}
use Rattle.mix_model.specs.Plans.{draw_over, is_shot, shot_colour}
use Rattle.mix_raster.specs.declared.band.Band.{Band}

abbrev pub IsFilled : ℕ × ℕ → List ℕ → (ℕ → ℕ → Colour) → Type 0
IsFilled canvas rgba colour = (x y : ℕ) → x < canvas.0 → y < canvas.1 →
    pixel_at canvas.0 rgba x y ≡ colour x y

-- bytes whose pixels are all opaque
pub record IsOpaque (canvas : ℕ × ℕ) (rgba : List ℕ) : Type 0 where
  pub opaque : (x y : ℕ) → x < canvas.0 → y < canvas.1 → (pixel_at canvas.0 rgba x y).alpha ≡ 255

-- a band of which one row is painted with a draw, while all others are as they were
pub record IsPaintedAt (tick : ℕ) (draw : Draw) (band : Band) (y : ℕ) (old new : List ℕ) : Type 0 where
  pub here : (x : ℕ) → x < band.width → pixel_at band.width new x y
      ≡ draw_over tick x (band.top + y) (pixel_at band.width old x y) draw
  pub above : (x j : ℕ) → x < band.width → j < y →
      pixel_at band.width new x j ≡ pixel_at band.width old x j
  pub under : (x j : ℕ) → x < band.width → y < j →
      pixel_at band.width new x j ≡ pixel_at band.width old x j

-- bytes of a band that a shot can be painted over
pub record IsReady (shot : Shot) (tick : ℕ) (band : Band) (rgba : List ℕ) : Type 0 where
  pub paintable : IsTrue (is_shot tick shot)
  pub tall : band.top + band.rows < 2 ^ 32
  pub whole : length rgba ≡ 4 * (band.width * band.rows)
  pub opaque : IsOpaque (band.width, band.rows) rgba

-- a band of the picture of a shot
pub record IsPainted (shot : Shot) (tick : ℕ) (band : Band) (rgba : List ℕ) : Type 0 where
  pub painted : IsFilled (band.width, band.rows) rgba (λ x y.
      shot_colour shot tick x (band.top + y))
