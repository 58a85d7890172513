-- What a plan promises.
use Rattle.std.specs.Prelude.{◌≡◌, ◌<◌, ◌==◌, ℕ, Bool, List}
use Rattle.std.specs.List.{list_any}
use Rattle.mix_model.specs.declared.row.Row.{Row}
use Rattle.mix_model.specs.declared.draw.Draw.{Draw}
use Rattle.mix_model.specs.Colours.{Colour}
use Rattle.mix_model.specs.Drawing.{Stage, roots_over}
use Rattle.mix_model.specs.Plans.{draws_over}

-- these rows, on this canvas, at this tick
abbrev pub stage_of : List Row → ℕ × ℕ → ℕ → Stage
stage_of rows canvas tick = record { rows = rows; canvas = canvas; tick = tick }

-- at each tick, at each pixel of the canvas and over each colour, the draws are the recursive drawing
-- of the roots, the first at the bottom
abbrev pub IsDrawing : List Row → ℕ × ℕ → List ℕ → List Draw → Type 0
IsDrawing rows canvas roots draws = (tick x y : ℕ) (below : Colour) →
    x < canvas.0 → y < canvas.1 →
    draws_over tick x y below draws ≡ roots_over (stage_of rows canvas tick) x y below roots

-- some row is active since the tick that the draw has
abbrev pub has_since_of : List Row → Draw → Bool
has_since_of rows draw = list_any (λ r. r.since == draw.since) rows
