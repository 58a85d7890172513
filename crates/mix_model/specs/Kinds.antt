-- What each kind of input shows and says: whole numbers, with floors also below zero.
use Rattle.std.specs.Prelude.{ℕ, ◌+◌, ◌*◌, ◌/◌, ◌%◌, ◌-◌, Bool, ◌==◌, if◌then◌else◌, ℤ, pos}
use Rattle.std.specs.Prelude.{◌+ℤ◌, ◌*ℤ◌, neg_ℤ, int_lt, unsigned_abs}
use Rattle.std.specs.Int.{int_div_euclid, int_rem_euclid}
use Rattle.mix_model.specs.declared.settings.Settings.{Settings}
use Rattle.mix_model.specs.declared.settings.Settings.TheVariants.{None as NoSettings, Color}
use Rattle.mix_model.specs.declared.settings.Settings.TheVariants.{Checker, Scroll, Raster, Tone}
use Rattle.mix_model.specs.Colours.{Colour, colour_of_number, colour_at, clear}

-- the first colour of two where the number is even
abbrev pub striped : Bool → ℕ → ℕ → ℕ
striped even a b = if even then a else b

-- whether the square at (u, v) is one of the first colour: every second one is
abbrev pub checker_even : ℕ → ℕ → ℕ → Bool
checker_even cell u v = (u / cell + v / cell) % 2 == 0

abbrev pub is_even : ℤ → Bool
is_even n = unsigned_abs (int_rem_euclid n (pos 2)) == 0

-- whether the bar at u is one of the first colour, so many frames after the input became active; bars
-- move by the speed in each frame
abbrev pub scroll_even : ℕ → ℤ → ℕ → ℕ → Bool
scroll_even bar speed age u = is_even (int_div_euclid (pos u +ℤ speed *ℤ pos age) (pos bar))

-- the colour at (u, v) at a tick, of an input that is active since the clock's value `since`; a scene,
-- a group and a tone have no pixel
abbrev pub pixel_of : Settings → ℕ → ℕ → ℕ → ℕ → Colour
pixel_of NoSettings since tick u v = clear
pixel_of (Color color width height) since tick u v = colour_of_number color
pixel_of (Checker color_a color_b cell width height) since tick u v =
    colour_of_number (striped (checker_even cell u v) color_a color_b)
pixel_of (Scroll color_a color_b bar speed width height) since tick u v =
    colour_of_number (striped (scroll_even bar speed (tick - since) u) color_a color_b)
pixel_of (Raster pixels width height) since tick u v = colour_at pixels (4 * (v * width + u))
pixel_of (Tone level half) since tick u v = clear

-- the sample of a place in time, which may lie before the beginning: a square wave whose first half is
-- above zero. Only a tone is heard
abbrev pub sample_of : Settings → ℤ → ℤ
sample_of (Tone level half) place =
    if int_lt (int_rem_euclid place (pos (2 * half))) (pos half) then pos level
    else neg_ℤ (pos level)
sample_of _ place = pos 0
