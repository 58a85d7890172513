-- Flat lists of draws, and the picture of a shot.
use Rattle.std.specs.Prelude.{ℕ, Bool, true, false, ◌&&◌, nat_le, nat_lt, List, [], ◌∷◌}
use Rattle.std.specs.Prelude.{fold, Option, Some, None, option_and_then, if◌then◌else◌}
use Rattle.std.specs.List.{list_all}
use Rattle.mix_model.specs.declared.settings.Settings.{Settings}
use Rattle.mix_model.specs.declared.settings.Settings.TheVariants.{None as NoSettings}
use Rattle.mix_model.specs.declared.draw.Step.{Step}
use Rattle.mix_model.specs.declared.draw.Draw.{Draw}
use Rattle.mix_model.specs.declared.draw.Shot.{Shot}
use Rattle.mix_model.specs.declared.picture.Picture.{Picture}
use Rattle.mix_model.specs.Sizes.{size_of}
use Rattle.mix_model.specs.Values.{is_place, are_valid}
use Rattle.mix_model.specs.Colours.{Colour, black, clear}
use Rattle.mix_model.specs.Kinds.{pixel_of}
use Rattle.mix_model.specs.Blending.{faded_colour}
use Rattle.mix_model.specs.Placing.{Point, inner_of}
use Rattle.mix_model.specs.Drawing.{is_inside, where_some, input_over}
use Rattle.mix_model.specs.Pictures.{filled}

-- the pixel at the end of the steps, or nothing where one of them leaves its item
abbrev pub reached : List Step → ℕ → ℕ → Option Point
reached [] x y = Some (x, y)
reached (step ∷ steps) x y = option_and_then (λ p. reached steps p.0 p.1)
    (inner_of step.place step.width step.height x y)

-- one draw at the canvas's pixel (x, y), over what is below
abbrev pub draw_over : ℕ → ℕ → ℕ → Colour → Draw → Colour
draw_over tick x y below draw = where_some (reached draw.steps x y)
    (input_over draw.settings draw.since tick draw.blend) below

-- a list of draws, the first at the bottom
abbrev pub draws_over : ℕ → ℕ → ℕ → Colour → List Draw → Colour
draws_over tick x y below draws = fold (draw_over tick x y) below draws

-- an input's pixel, or what changes nothing outside its size
abbrev pub source_within : Settings → ℕ → ℕ → Option Point → Colour
source_within settings since tick None = clear
source_within settings since tick (Some p) = if is_inside (size_of settings (0, 0)) p.0 p.1
    then pixel_of settings since tick p.0 p.1 else clear

-- what a draw lays over the canvas's pixel (x, y)
abbrev pub source_of : ℕ → ℕ → ℕ → Draw → Colour
source_of tick x y draw = source_within draw.settings draw.since tick (reached draw.steps x y)

-- one list over black, or a fade of two at t of n
abbrev pub base_colour : Shot → ℕ → Option (List Draw) → ℕ → ℕ → Colour
base_colour shot tick None x y = draws_over tick x y black shot.from
base_colour shot tick (Some to) x y = faded_colour shot.t shot.n
    (draws_over tick x y black shot.from) (draws_over tick x y black to)

-- and the further draws over it
abbrev pub shot_colour : Shot → ℕ → ℕ → ℕ → Colour
shot_colour shot tick x y =
    draws_over tick x y (base_colour shot tick shot.to x y) shot.over

-- the picture of a shot at a tick
unfoldable pub painted : Shot → ℕ → ℕ × ℕ → Picture
painted shot tick canvas = filled canvas (shot_colour shot tick)

abbrev pub has_settings : Settings → Bool
has_settings NoSettings = false
has_settings _ = true

-- a step that can be taken: what stands there is no larger than a canvas or an input can be
abbrev pub is_step : Step → Bool
is_step step = is_place step.place && nat_le step.width 4096 && nat_le step.height 4096

-- a draw that can be painted: of an input, and each value in its range
unfoldable pub is_draw : Draw → Bool
is_draw draw = has_settings draw.settings && are_valid draw.settings
    && list_all is_step draw.steps

-- a draw whose input is active since this tick or an earlier one
abbrev pub is_begun : ℕ → Draw → Bool
is_begun tick draw = nat_le draw.since tick

abbrev pub are_paintable : ℕ → List Draw → Bool
are_paintable tick draws = list_all (λ d. is_draw d && is_begun tick d) draws

abbrev pub are_paintable_or_none : ℕ → Option (List Draw) → Bool
are_paintable_or_none tick None = true
are_paintable_or_none tick (Some draws) = are_paintable tick draws

-- a shot that can be painted at this tick
unfoldable pub is_shot : ℕ → Shot → Bool
is_shot tick shot = nat_lt shot.t shot.n && are_paintable tick shot.from
    && are_paintable_or_none tick shot.to && are_paintable tick shot.over
