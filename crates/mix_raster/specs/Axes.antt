-- Columns and rows lead on apart from each other: a quarter turn exchanges the two, and what stands
-- in the one direction never counts in the other.
use Rattle.std.specs.Prelude.{ℕ, ◌+◌, ◌-◌, ◌/◌, ◌<◌, ◌≤◌, ◌==◌, Bool, true, false, not}
use Rattle.std.specs.Prelude.{if◌then◌else◌, pos, ◌-ℤ◌, List, [], ◌∷◌, Option, Some}
use Rattle.std.specs.Prelude.{option_map, option_and_then}
use Rattle.mix_model.specs.declared.place.Place.{Place}
use Rattle.mix_model.specs.declared.draw.Step.{Step}
use Rattle.mix_model.specs.Placing.{turned_choice, scaled_width, scaled_height, back, within}
use Rattle.mix_raster.specs.declared.axis.Axis.{Axis}

-- turns of 90 and 180 degrees count columns from the far end, those of 180 and 270 degrees rows
abbrev pub mirrors_columns : ℕ → Bool
mirrors_columns quarter = if quarter == 0 then false
    else (if quarter == 1 then true else (if quarter == 2 then true else false))

abbrev pub mirrors_rows : ℕ → Bool
mirrors_rows quarter = if quarter == 0 then false
    else (if quarter == 1 then false else (if quarter == 2 then true else true))

-- whether a turn exchanges columns and rows
abbrev pub is_aside : ℕ → Bool
is_aside quarter = turned_choice quarter false true

-- the columns of a scene or group through a place, whose child is of this scaled size
abbrev pub across : Place → ℕ → ℕ → Axis
across place wide high = record {
  back = back place.align 1 2 (turned_choice place.quarter wide high);
  position = place.x;
  side = turned_choice place.quarter wide high;
  mirrored = mirrors_columns place.quarter;
  scale = turned_choice place.quarter place.scale_x place.scale_y;
  crop = turned_choice place.quarter place.crop_left place.crop_top;
}

-- and its rows
abbrev pub downwards : Place → ℕ → ℕ → Axis
downwards place wide high = record {
  back = back place.align 4 8 (turned_choice place.quarter high wide);
  position = place.y;
  side = turned_choice place.quarter high wide;
  mirrored = mirrors_rows place.quarter;
  scale = turned_choice place.quarter place.scale_y place.scale_x;
  crop = turned_choice place.quarter place.crop_top place.crop_left;
}

-- the axis of a step, downwards or across
abbrev pub axis_through : Bool → Step → Axis
axis_through true step = downwards step.place (scaled_width step.place step.width)
    (scaled_height step.place step.height)
axis_through false step = across step.place (scaled_width step.place step.width)
    (scaled_height step.place step.height)

-- a place in the box, counted from the end that the axis counts from
abbrev pub counted : Axis → ℕ → ℕ
counted axis i = if axis.mirrored then axis.side - 1 - i else i

-- where a column or a row leads by an axis, or nothing outside the box
abbrev pub led_by : Axis → ℕ → Option ℕ
led_by axis z = option_map (λ i. axis.crop + counted axis i / axis.scale)
    (within (pos (z + axis.back) -ℤ axis.position) axis.side)

-- one test exchanged by another
abbrev pub exchanged_by : Bool → Bool → Bool
exchanged_by true b = not b
exchanged_by false b = b

-- where a column or a row leads by all steps, from the outside in
abbrev pub axis_reached : Bool → List Step → ℕ → Option ℕ
axis_reached down [] z = Some z
axis_reached down (step ∷ steps) z =
    option_and_then (axis_reached (exchanged_by (is_aside step.place.quarter) down) steps)
    (led_by (axis_through down step) z)

-- whether all steps together exchange columns and rows
abbrev pub exchanged : List Step → Bool
exchanged [] = false
exchanged (step ∷ steps) = exchanged_by (is_aside step.place.quarter) (exchanged steps)

-- an axis by which places can be counted without running over
pub record IsAxis (axis : Axis) : Type 0 where
  pub begun : axis.back ≤ 65536
  pub long : axis.side ≤ 65536
  pub cut : axis.crop ≤ 100000
  pub scaled : 0 < axis.scale
