-- Settings as an object: all keys.
use Rattle.std.specs.Prelude.{ℕ, ℤ, pos, List, [], ◌∷◌, codes}
use Rattle.base64.specs.Engines.{standard}
use Rattle.base64.specs.GeneralPurpose.{encode_of}
use Rattle.mix_base.specs.declared.json.Json.{Json}
use Rattle.mix_base.specs.declared.json.Json as json
use Rattle.mix_base.specs.Json.{Object}
use Rattle.mix_json.specs.Trees.{obj_of}
use Rattle.mix_model.specs.declared.settings.Settings.{Settings}
use Rattle.mix_model.specs.declared.settings.Settings.TheVariants.{None as NoSettings, Color}
use Rattle.mix_model.specs.declared.settings.Settings.TheVariants.{Checker, Scroll, Raster, Tone}

-- a key with its value
abbrev pub Field : Type 0
Field = List ℕ × Json

abbrev pub number : List ℕ → ℕ → Field
number key n = (key, json.Int (pos n))

-- bytes as base64 of the standard alphabet, with padding (RFC 4648)
abbrev pub text_of : List ℕ → List ℕ
text_of bytes = encode_of standard bytes

abbrev pub color_fields : ℕ → ℕ → ℕ → List Field
color_fields color width height =
    number (codes "color") color
    ∷ (number (codes "height") height
    ∷ (number (codes "width") width ∷ []))

abbrev pub checker_fields : ℕ → ℕ → ℕ → ℕ → ℕ → List Field
checker_fields color_a color_b cell width height =
    number (codes "cell") cell
    ∷ (number (codes "color_a") color_a
    ∷ (number (codes "color_b") color_b
    ∷ (number (codes "height") height
    ∷ (number (codes "width") width ∷ []))))

abbrev pub scroll_fields : ℕ → ℕ → ℕ → ℤ → ℕ → ℕ → List Field
scroll_fields color_a color_b bar speed width height =
    number (codes "bar") bar
    ∷ (number (codes "color_a") color_a
    ∷ (number (codes "color_b") color_b
    ∷ (number (codes "height") height
    ∷ ((codes "speed", json.Int speed)
    ∷ (number (codes "width") width ∷ [])))))

abbrev pub raster_fields : List ℕ → ℕ → ℕ → List Field
raster_fields pixels width height =
    number (codes "height") height
    ∷ ((codes "pixels", json.Text (text_of pixels))
    ∷ (number (codes "width") width ∷ []))

abbrev pub tone_fields : ℕ → ℕ → List Field
tone_fields level half =
    number (codes "half") half ∷ (number (codes "level") level ∷ [])

abbrev pub fields_of : Settings → List Field
fields_of NoSettings = []
fields_of (Color color width height) = color_fields color width height
fields_of (Checker a b cell width height) = checker_fields a b cell width height
fields_of (Scroll a b bar speed width height) = scroll_fields a b bar speed width height
fields_of (Raster pixels width height) = raster_fields pixels width height
fields_of (Tone level half) = tone_fields level half

-- the object of settings
unfoldable pub object_of : Settings → Object
object_of settings = obj_of (fields_of settings)
