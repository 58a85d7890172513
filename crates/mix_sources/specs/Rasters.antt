-- What a raster may be: its size and its pixels fit each other.
use Rattle.std.specs.Prelude.{ℕ, ◌*◌, ◌==◌, nat_lt, List, length, codes, if◌then◌else◌}
use Rattle.std.specs.Prelude.{Option, Some, None, Result, Ok, Err}
use Rattle.std.specs.Result.{result_ok}
use Rattle.base64.specs.Engines.{standard}
use Rattle.base64.specs.GeneralPurpose.{decode_of}
use Rattle.mix_json.specs.Fields.{out_of_range}
use Rattle.mix_model.specs.declared.settings.Settings.{Settings}
use Rattle.mix_model.specs.declared.settings.Settings.TheVariants.{Raster}
use Rattle.mix_sources.specs.declared.fault.BadSetting.{BadSetting}
use Rattle.mix_sources.specs.Keys.{bad}

-- the status of obs-websocket 5 for a value that makes no sense
abbrev pub invalid_field : ℕ
invalid_field = 400

-- the most pixels of a raster
abbrev pub most_pixels : ℕ
most_pixels = 131072

-- the bytes that a text stands for in base64 of the standard alphabet, with padding (RFC 4648)
unfoldable pub bytes_in : List ℕ → Option (List ℕ)
bytes_in text = result_ok (decode_of standard text)

-- the bytes of the text that is given, or those that stand
abbrev pub pixels_of : List ℕ → Option (List ℕ) → Option (List ℕ)
pixels_of standing None = Some standing
pixels_of standing (Some text) = bytes_in text

-- each pixel has four bytes
abbrev pub filled_with : ℕ → ℕ → Option (List ℕ) → Result Settings BadSetting
filled_with width height None = Err (bad (codes "pixels") invalid_field)
filled_with width height (Some pixels) = if length pixels == 4 * (width * height)
    then Ok (Raster pixels width height) else Err (bad (codes "pixels") invalid_field)

-- a raster of this size; too many pixels are a fault of the height
unfoldable pub raster_of : ℕ → ℕ → Option (List ℕ) → Result Settings BadSetting
raster_of width height pixels = if nat_lt most_pixels (width * height)
    then Err (bad (codes "height") out_of_range) else filled_with width height pixels
