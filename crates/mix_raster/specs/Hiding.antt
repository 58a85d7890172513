-- Draws that hide what lies below them.
use Rattle.std.specs.Prelude.{ℕ, ◌+◌, ◌<◌, ◌≡◌, List, length, drop}
use Rattle.mix_model.specs.declared.draw.Draw.{Draw}
use Rattle.mix_model.specs.Colours.{Colour, black}
use Rattle.mix_model.specs.Plans.{draw_over, draws_over}
use Rattle.mix_raster.specs.declared.band.Band.{Band}

-- nothing is seen of what lies below a draw in a band
pub record Hides (draw : Draw) (band : Band) : Type 0 where
  pub hidden : (tick x y : ℕ) (below other : Colour) → x < band.width → y < band.rows →
      below.alpha ≡ other.alpha →
      draw_over tick x (band.top + y) below draw ≡ draw_over tick x (band.top + y) other draw

-- draws of which those before one aren't seen in a band: the others over any opaque colour look as all
-- of them over black
pub record IsSeenFrom (draws : List Draw) (band : Band) (first : ℕ) : Type 0 where
  pub within : first < length draws
  pub seen : (tick x y : ℕ) (below : Colour) → x < band.width → y < band.rows →
      below.alpha ≡ 255 → draws_over tick x (band.top + y) below (drop first draws)
      ≡ draws_over tick x (band.top + y) black draws
