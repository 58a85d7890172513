-- The picture of a state, and the payload of a picture.
use Rattle.std.specs.Prelude.{ℕ, ◌*◌, ◌==◌, Bool, List, flat_map, drop, length}
use Rattle.std.specs.List.{range_with_len}
use Rattle.mix_model.specs.declared.picture.Picture.{Picture}
use Rattle.mix_model.specs.State.{GraphState, StudioState, Shown, Rest, Fade}
use Rattle.mix_model.specs.Lookups.{named_by}
use Rattle.mix_model.specs.Colours.{Colour, bytes_of, black}
use Rattle.mix_model.specs.Blending.{faded_colour}
use Rattle.mix_model.specs.Drawing.{Stage, roots_over}
use Rattle.std.specs.Prelude.{[], ◌∷◌}

-- a canvas is filled row by row, with the colour of each column and row
abbrev pub filled : ℕ × ℕ → (ℕ → ℕ → Colour) → Picture
filled canvas colour = record {
  width = canvas.0;
  height = canvas.1;
  rgba = flat_map (λ y. flat_map (λ x. bytes_of (colour x y)) (range_with_len 0 canvas.0))
      (range_with_len 0 canvas.1);
}

-- the program's scene over black; in a fade the two scenes, each over black, at t of n
abbrev pub program_colour : Stage → Shown → ℕ → ℕ → Colour
program_colour stage (Rest x) u v = roots_over stage u v black (x ∷ [])
program_colour stage (Fade a b t n) u v =
    faded_colour t n (roots_over stage u v black (a ∷ [])) (roots_over stage u v black (b ∷ []))

-- the rows that channels 1 to 63 name, by rising channel
abbrev pub side_roots : GraphState → List ℕ
side_roots g = flat_map named_by (drop 1 g.channels)

-- the sources as they are drawn at a tick
abbrev pub stage_at : StudioState → ℕ → Stage
stage_at s tick = record { rows = s.graph.rows; canvas = s.canvas; tick = tick }

-- the program, and what the channels 1 to 63 name over it
abbrev pub colour_in : StudioState → ℕ → ℕ → ℕ → Colour
colour_in s tick u v = let stage : Stage = stage_at s tick in
    roots_over stage u v (program_colour stage s.program.shown u v) (side_roots s.graph)

-- the picture of a state at a tick
unfoldable pub picture_at : StudioState → ℕ → Picture
picture_at s tick = filled s.canvas (colour_in s tick)

-- a picture has four bytes for each pixel
abbrev pub is_picture : Picture → Bool
is_picture picture = length picture.rgba == 4 * (picture.width * picture.height)
