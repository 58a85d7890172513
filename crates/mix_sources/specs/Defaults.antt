-- The settings that an input has where none are given.
use Rattle.std.specs.Prelude.{ℕ, pos, List, [], ◌∷◌}
use Rattle.mix_model.specs.declared.kind.Kind.{Kind}
use Rattle.mix_model.specs.declared.kind.Kind.TheVariants.{Scene, Group, Color as ColorKind}
use Rattle.mix_model.specs.declared.kind.Kind.TheVariants.{Checker as CheckerKind}
use Rattle.mix_model.specs.declared.kind.Kind.TheVariants.{Scroll as ScrollKind}
use Rattle.mix_model.specs.declared.kind.Kind.TheVariants.{Raster as RasterKind, Tone as ToneKind}
use Rattle.mix_model.specs.declared.settings.Settings.{Settings}
use Rattle.mix_model.specs.declared.settings.Settings.TheVariants.{None as NoSettings, Color}
use Rattle.mix_model.specs.declared.settings.Settings.TheVariants.{Checker, Scroll, Raster, Tone}

-- opaque black and opaque white
abbrev pub black_number : ℕ
black_number = 4278190080

abbrev pub white_number : ℕ
white_number = 4294967295

-- one opaque white pixel, in base64 "/////w=="
abbrev pub white_pixel : List ℕ
white_pixel = 255 ∷ (255 ∷ (255 ∷ (255 ∷ [])))

-- a picture is as large as the canvas, but a raster has one pixel
unfoldable pub default_of : Kind → ℕ × ℕ → Settings
default_of Scene canvas = NoSettings
default_of Group canvas = NoSettings
default_of ColorKind canvas = Color white_number canvas.0 canvas.1
default_of CheckerKind canvas = Checker black_number white_number 8 canvas.0 canvas.1
default_of ScrollKind canvas = Scroll black_number white_number 8 (pos 1) canvas.0 canvas.1
default_of RasterKind canvas = Raster white_pixel 1 1
default_of ToneKind canvas = Tone 8192 54
