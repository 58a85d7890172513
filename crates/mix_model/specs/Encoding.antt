-- The bytes of pictures and blocks.
use Rattle.std.specs.Prelude.{ℕ, ◌+◌, ◌*◌, ◌/◌, ◌%◌, ℤ, pos, ◌+ℤ◌, ◌-ℤ◌, unsigned_abs}
use Rattle.std.specs.Prelude.{List, [], ◌∷◌, ◌++◌, map, flat_map, filter, take, drop}
use Rattle.std.specs.Int.{int_div_euclid, int_rem_euclid}
use Rattle.std.specs.List.{range_with_len}
use Rattle.mix_model.specs.declared.picture.Picture.{Picture}
use Rattle.mix_model.specs.declared.picture.Block.{Block}
use Rattle.mix_model.specs.Colours.{Colour, pixel_at}
use Rattle.mix_model.specs.Sounds.{has_track}

-- how bright a colour is
abbrev pub luma : Colour → ℕ
luma c = (66 * c.red + 129 * c.green + 25 * c.blue + 128) / 256 + 16

-- a weighted sum, rounded down, and moved so that grey is 128
abbrev pub chroma : ℤ → ℕ
chroma sum = unsigned_abs (int_div_euclid (sum +ℤ pos 128) (pos 256) +ℤ pos 128)

-- how blue a colour is beside its brightness
abbrev pub chroma_blue : Colour → ℕ
chroma_blue c = chroma (pos (112 * c.blue) -ℤ pos (38 * c.red + 74 * c.green))

-- and how red
abbrev pub chroma_red : Colour → ℕ
chroma_red c = chroma (pos (112 * c.red) -ℤ pos (94 * c.green + 18 * c.blue))

-- the mean of four, to the nearest
abbrev pub mean : ℕ → ℕ → ℕ → ℕ → ℕ
mean a b c d = (a + b + c + d + 2) / 4

abbrev pub mean_colour : Colour → Colour → Colour → Colour → Colour
mean_colour a b c d = record {
  red = mean a.red b.red c.red d.red;
  green = mean a.green b.green c.green d.green;
  blue = mean a.blue b.blue c.blue d.blue;
  alpha = mean a.alpha b.alpha c.alpha d.alpha;
}

-- the pixel in column x of row y
abbrev pub pixel_in : Picture → ℕ → ℕ → Colour
pixel_in picture x y = pixel_at picture.width picture.rgba x y

-- the mean of the square of four pixels in column x of row y of squares
abbrev pub square_colour : Picture → ℕ → ℕ → Colour
square_colour picture x y =
    mean_colour (pixel_in picture (2 * x) (2 * y)) (pixel_in picture (2 * x + 1) (2 * y))
    (pixel_in picture (2 * x) (2 * y + 1)) (pixel_in picture (2 * x + 1) (2 * y + 1))

-- a plane, row by row
abbrev pub plane : ℕ → ℕ → (ℕ → ℕ → ℕ) → List ℕ
plane width height value =
    flat_map (λ y. map (λ x. value x y) (range_with_len 0 width)) (range_with_len 0 height)

-- I420: the brightness of each pixel, and then the two colours of each square of four
unfoldable pub i420_of : Picture → List ℕ
i420_of picture = let width : ℕ = picture.width in let height : ℕ = picture.height in
    plane width height (λ x y. luma (pixel_in picture x y))
    ++ (plane (width / 2) (height / 2) (λ x y. chroma_blue (square_colour picture x y))
    ++ plane (width / 2) (height / 2) (λ x y. chroma_red (square_colour picture x y)))

-- a sample in two bytes, the lower one first
abbrev pub sample_bytes : ℤ → List ℕ
sample_bytes z = let n : ℕ = unsigned_abs (int_rem_euclid z (pos 65536)) in
    n % 256 ∷ (n / 256 ∷ [])

-- the samples of a track of a block, left and right in turn, tracks counted from 0
abbrev pub samples_of : Block → ℕ → List ℤ
samples_of block track = take 2048 (drop (2048 * track) block.tracks)

-- the bytes of a block: the tracks of a mask in rising order
unfoldable pub pcm_of : Block → ℕ → List ℕ
pcm_of block mask = flat_map (λ track. flat_map sample_bytes (samples_of block track))
    (filter (has_track mask) (range_with_len 0 6))
