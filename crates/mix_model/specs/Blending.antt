-- How one colour lies over another, and how two colours fade.
use Rattle.std.specs.Prelude.{ℕ, ◌+◌, ◌*◌, ◌/◌, ◌-◌, min, max, List, ◌∷◌}
use Rattle.std.specs.Simd.Lanes.{zip2}
use Rattle.mix_model.specs.declared.kind.Blend.{Blend}
use Rattle.mix_model.specs.declared.kind.Blend.TheVariants.{Normal, Additive, Subtract, Screen}
use Rattle.mix_model.specs.declared.kind.Blend.TheVariants.{Multiply, Lighten, Darken}
use Rattle.mix_model.specs.Colours.{Colour}

-- the product of two channels, the whole of a channel being 1
abbrev pub product_of : ℕ → ℕ → ℕ
product_of s d = (s * d + 127) / 255

-- what a mode makes of the channel s over d, before the alpha of s counts
abbrev pub mode_over : Blend → ℕ → ℕ → ℕ
mode_over Normal s d = s
mode_over Additive s d = min 255 (s + d)
mode_over Subtract s d = d - s
mode_over Screen s d = s + d - product_of s d
mode_over Multiply s d = product_of s d
mode_over Lighten s d = max s d
mode_over Darken s d = min s d

-- a channel f of alpha a over d, to the nearest
abbrev pub covering : ℕ → ℕ → ℕ → ℕ
covering f a d = (f * a + d * (255 - a) + 127) / 255

-- the channel s of alpha a over d
abbrev pub channel_over : Blend → ℕ → ℕ → ℕ → ℕ
channel_over mode s a d = covering (mode_over mode s d) a d

-- a colour over what is below it, whose alpha stays
abbrev pub over : Blend → Colour → Colour → Colour
over mode s d = record {
  red = channel_over mode s.red s.alpha d.red;
  green = channel_over mode s.green s.alpha d.green;
  blue = channel_over mode s.blue s.alpha d.blue;
  alpha = d.alpha;
}

-- t parts of n of the one channel, and the rest of the other, to the nearest
abbrev pub faded : ℕ → ℕ → ℕ → ℕ → ℕ
faded t n from to = ((n - t) * from + t * to + n / 2) / n

abbrev pub faded_colour : ℕ → ℕ → Colour → Colour → Colour
faded_colour t n from to = record {
  red = faded t n from.red to.red;
  green = faded t n from.green to.green;
  blue = faded t n from.blue to.blue;
  alpha = faded t n from.alpha to.alpha;
}

-- a row of whole pixels over a row of as many
abbrev pub pixels_over : Blend → List ℕ → List ℕ → List ℕ
pixels_over mode (sr ∷ sg ∷ sb ∷ sa ∷ above) (dr ∷ dg ∷ db ∷ da ∷ below) =
    channel_over mode sr sa dr ∷ channel_over mode sg sa dg ∷ channel_over mode sb sa db ∷ da
    ∷ pixels_over mode above below
pixels_over mode above below = below

-- a fade of two rows, byte by byte
abbrev pub bytes_faded : ℕ → ℕ → List ℕ → List ℕ → List ℕ
bytes_faded t n from to = zip2 (faded t n) from to
