-- A colour, and its four bytes as a picture has them.
use Rattle.std.specs.Prelude.{ℕ, ◌+◌, ◌*◌, ◌/◌, ◌%◌, List, [], ◌∷◌, get_or}

pub record Colour : Type 0 where
  pub red : ℕ
  pub green : ℕ
  pub blue : ℕ
  pub alpha : ℕ

-- a colour's number is alpha · 2^24 + blue · 2^16 + green · 2^8 + red
abbrev pub colour_of_number : ℕ → Colour
colour_of_number n = record {
  red = n % 256;
  green = n / 256 % 256;
  blue = n / 65536 % 256;
  alpha = n / 16777216 % 256;
}

-- a picture has a colour's red, green, blue and alpha one after the other
abbrev pub bytes_of : Colour → List ℕ
bytes_of c = c.red ∷ (c.green ∷ (c.blue ∷ (c.alpha ∷ [])))

-- the colour whose bytes begin at this place
abbrev pub colour_at : List ℕ → ℕ → Colour
colour_at bytes place = record {
  red = get_or bytes place 0;
  green = get_or bytes (place + 1) 0;
  blue = get_or bytes (place + 2) 0;
  alpha = get_or bytes (place + 3) 0;
}

-- the colour in column x of row y of a picture of this width
abbrev pub pixel_at : ℕ → List ℕ → ℕ → ℕ → Colour
pixel_at width bytes x y = colour_at bytes (4 * width * y + 4 * x)

-- a picture begins as black, and its alpha stays whole
abbrev pub black : Colour
black = record { red = 0; green = 0; blue = 0; alpha = 255 }

-- what changes nothing that it lies over
abbrev pub clear : Colour
clear = record { red = 0; green = 0; blue = 0; alpha = 0 }
