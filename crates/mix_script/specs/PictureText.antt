-- The text of a picture.
use Rattle.std.specs.Prelude.{ℕ, ◌*◌, nat_le, List, ◌++◌, take, drop, flat_map, codes}
use Rattle.std.specs.Prelude.{if◌then◌else◌}
use Rattle.std.specs.List.{range_with_len}
use Rattle.hex.specs.Hex.{encode_lower}
use Rattle.sha2.specs.Sha256.{sha256}
use Rattle.mix_model.specs.declared.picture.Picture.{Picture}

-- a picture of so many pixels at most is written pixel by pixel
abbrev pub most_written : ℕ
most_written = 64

abbrev pub pixels_in : Picture → ℕ
pixels_in picture = picture.width * picture.height

-- a pixel behind a space: red, green and blue as two digits each, in lower case. Pixels are counted
-- row by row, from 0, and the alpha isn't written
abbrev pub pixel_text : List ℕ → ℕ → List ℕ
pixel_text rgba pixel = codes " " ++ encode_lower (take 3 (drop (4 * pixel) rgba))

-- the first pixels of a picture with these bytes, row by row
abbrev pub pixels_text : List ℕ → ℕ → List ℕ
pixels_text rgba pixels = flat_map (pixel_text rgba) (range_with_len 0 pixels)

-- the SHA-256 of the bytes of a picture, behind a space and its name
abbrev pub digest_text : List ℕ → List ℕ
digest_text rgba = codes " sha256:" ++ encode_lower (sha256 rgba)

-- the text of a picture: each pixel of a small one, and the digest of a larger one
unfoldable pub picture_text : Picture → List ℕ
picture_text picture = if nat_le (pixels_in picture) most_written
    then pixels_text picture.rgba (pixels_in picture) else digest_text picture.rgba
