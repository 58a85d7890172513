-- How large the picture of a source is.
use Rattle.std.specs.Prelude.{ℕ}
use Rattle.mix_model.specs.declared.settings.Settings.{Settings}
use Rattle.mix_model.specs.declared.settings.Settings.TheVariants.{None as NoSettings, Color}
use Rattle.mix_model.specs.declared.settings.Settings.TheVariants.{Checker, Scroll, Raster, Tone}

-- width and height: scenes and groups, which have no settings, are as large as the canvas, and a tone
-- has no picture
abbrev pub size_of : Settings → ℕ × ℕ → ℕ × ℕ
size_of NoSettings canvas = canvas
size_of (Color color width height) canvas = (width, height)
size_of (Checker a b cell width height) canvas = (width, height)
size_of (Scroll a b bar speed width height) canvas = (width, height)
size_of (Raster pixels width height) canvas = (width, height)
size_of (Tone level half) canvas = (0, 0)
