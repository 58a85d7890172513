-- Which settings the keys of an object give: a table for each kind, a line for each key, the keys
-- in byte order. The first fault is the answer; a key that no line names is dropped.
use Rattle.std.specs.Prelude.{ℕ, ℤ, Bool, not, ◌||◌, List, codes, Result, Ok, Err}
use Rattle.mix_base.specs.Json.{Object}
use Rattle.mix_model.specs.declared.kind.Kind.{Kind}
use Rattle.mix_model.specs.declared.settings.Settings.{Settings}
use Rattle.mix_model.specs.declared.settings.Settings.TheVariants.{None as NoSettings, Color}
use Rattle.mix_model.specs.declared.settings.Settings.TheVariants.{Checker, Scroll, Raster, Tone}
use Rattle.mix_model.specs.Plans.{has_settings}
use Rattle.mix_model.specs.Values.{are_settings}
use Rattle.mix_sources.specs.declared.fault.BadSetting.{BadSetting}
use Rattle.mix_sources.specs.Defaults.{default_of}
use Rattle.mix_sources.specs.Keys.{color_at, number_at, side_at, speed_at, text_at}
use Rattle.mix_sources.specs.Rasters.{pixels_of, raster_of}

-- what comes after a fault isn't looked at
infixl 10 ◌>>=◌
abbrev pub ◌>>=◌ : {A B : Type 0} → Result A BadSetting → (A → Result B BadSetting)
    → Result B BadSetting
(Ok x) >>= rest = rest x
(Err fault) >>= rest = Err fault

-- one colour
unfoldable pub color_over : ℕ → ℕ → ℕ → Object → Result Settings BadSetting
color_over color width height given = do
  color' ← color_at (codes "color") color given
  height' ← side_at (codes "height") height given
  width' ← side_at (codes "width") width given
  Ok (Color color' width' height')

-- two colours in squares
unfoldable pub checker_over : ℕ → ℕ → ℕ → ℕ → ℕ → Object → Result Settings BadSetting
checker_over color_a color_b cell width height given = do
  cell' ← side_at (codes "cell") cell given
  color_a' ← color_at (codes "color_a") color_a given
  color_b' ← color_at (codes "color_b") color_b given
  height' ← side_at (codes "height") height given
  width' ← side_at (codes "width") width given
  Ok (Checker color_a' color_b' cell' width' height')

-- two colours in bars that move
unfoldable pub scroll_over : ℕ → ℕ → ℕ → ℤ → ℕ → ℕ → Object → Result Settings BadSetting
scroll_over color_a color_b bar speed width height given = do
  bar' ← side_at (codes "bar") bar given
  color_a' ← color_at (codes "color_a") color_a given
  color_b' ← color_at (codes "color_b") color_b given
  height' ← side_at (codes "height") height given
  speed' ← speed_at (codes "speed") speed given
  width' ← side_at (codes "width") width given
  Ok (Scroll color_a' color_b' bar' speed' width' height')

-- given pixels; whether they fit the size is looked at after the keys
unfoldable pub raster_over : List ℕ → ℕ → ℕ → Object → Result Settings BadSetting
raster_over pixels width height given = do
  height' ← side_at (codes "height") height given
  text ← text_at (codes "pixels") given
  width' ← side_at (codes "width") width given
  raster_of width' height' (pixels_of pixels text)

-- a square wave
unfoldable pub tone_over : ℕ → ℕ → Object → Result Settings BadSetting
tone_over level half given = do
  half' ← number_at (codes "half") 1 48000 half given
  level' ← number_at (codes "level") 0 32767 level given
  Ok (Tone level' half')

-- the keys over settings that stand
abbrev pub keys_over : Settings → Object → Result Settings BadSetting
keys_over NoSettings given = Ok NoSettings
keys_over (Color color width height) given = color_over color width height given
keys_over (Checker a b cell width height) given = checker_over a b cell width height given
keys_over (Scroll a b bar speed width height) given = scroll_over a b bar speed width height given
keys_over (Raster pixels width height) given = raster_over pixels width height given
keys_over (Tone level half) given = tone_over level half given

-- what stands: the settings, or the defaults of the kind where there are none
abbrev pub standing_of : Kind → Settings → ℕ × ℕ → Settings
standing_of kind NoSettings canvas = default_of kind canvas
standing_of kind settings canvas = settings

-- THE RULE OF SETTINGS: the keys that are given, over settings that stand
abbrev pub checked : Kind → Settings → Object → ℕ × ℕ → Result Settings BadSetting
checked kind over given canvas = keys_over (standing_of kind over canvas) given

-- what keys may be put over: no settings, or valid ones of the kind
abbrev pub are_over : Kind → Settings → Bool
are_over kind over = not (has_settings over) || are_settings kind over
