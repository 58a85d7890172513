-- Between which columns, or rows, of a canvas the steps of a draw lead into its source.
use Rattle.std.specs.Prelude.{ℕ, ◌+◌, ◌-◌, ◌*◌, ◌/◌, ◌<◌, ◌≤◌, ◌⊎◌, ◌≡◌, min, nat_lt, Bool}
use Rattle.std.specs.Prelude.{Option, Some, None, IsSome, option_and_then, if◌then◌else◌}
use Rattle.std.specs.Prelude.{List, [], ◌∷◌, length, get_or, ℤ, pos, negsuc, ◌+ℤ◌, ◌-ℤ◌}
use Rattle.mix_model.specs.declared.draw.Step.{Step}
use Rattle.mix_raster.specs.declared.axis.Axis.{Axis}
use Rattle.mix_raster.specs.Axes.{axis_through, exchanged_by, is_aside}

-- a place, or the first one where it lies before that
abbrev pub or_first : ℤ → ℕ
or_first (pos i) = i
or_first (negsuc _) = 0

-- how many places of a box, counted from the end that the axis counts from, lead before this place
abbrev pub places_before : Axis → ℕ → ℕ
places_before axis u = min ((u - axis.crop) * axis.scale) axis.side

-- where the place of a box lies in what holds it
abbrev pub laid : Axis → ℕ → ℕ
laid axis i = or_first (pos i +ℤ axis.position -ℤ pos axis.back)

-- which places lead between two by an axis: from the first on, and before the second
abbrev pub span_through : Axis → ℕ × ℕ → ℕ × ℕ
span_through axis span = (
  laid axis (if axis.mirrored then axis.side - places_before axis span.1
      else places_before axis span.0),
  laid axis (if axis.mirrored then axis.side - places_before axis span.0
      else places_before axis span.1),
)

-- which columns, or rows, lead along a side of the source by all steps
abbrev pub span_led : Bool → List Step → ℕ → ℕ × ℕ
span_led down [] side = (0, side)
span_led down (step ∷ steps) side = span_through (axis_through down step)
    (span_led (exchanged_by (is_aside step.place.quarter) down) steps side)

-- places that count on by one from the first, each so many times; by 0 times nothing is said of them
pub record AreRepeated (times : ℕ) (places : List ℕ) : Type 0 where
  pub repeated : 0 < times → (i : ℕ) → i < length places →
      get_or places i 0 ≡ get_or places 0 0 + i / times

-- nothing past the side
abbrev pub cut : ℕ → Option ℕ → Option ℕ
cut side place = option_and_then (λ i. if nat_lt i side then Some i else None) place

-- the part of a span that is within so many places, from one on
pub record IsClipped (span : ℕ × ℕ) (from total : ℕ) (part : ℕ × ℕ) : Type 0 where
  pub rising : part.0 ≤ part.1
  pub within : part.1 ≤ total
  pub inside : (z : ℕ) → part.0 ≤ z → z < part.1 → (span.0 ≤ from + z) × (from + z < span.1)
  pub before : (z : ℕ) → z < part.0 → from + z < span.0
  pub after : (z : ℕ) → part.1 ≤ z → z < total → span.1 ≤ from + z

-- the places from the first to the end of a span lead somewhere, and no others
pub record IsSpan (span : ℕ × ℕ) (led : ℕ → Option ℕ) : Type 0 where
  pub inside : (z : ℕ) → span.0 ≤ z → z < span.1 → IsSome (led z)
  pub outside : (z : ℕ) → (z < span.0) ⊎ (span.1 ≤ z) → led z ≡ None

-- of so many places, from one on, those lead somewhere that come from the first on, each to what is
-- listed, and no others
pub record Leads (led : ℕ → Option ℕ) (from total first : ℕ) (places : List ℕ) : Type 0 where
  pub within : first + length places ≤ total
  pub inside : (i : ℕ) → i < length places → led (from + (first + i)) ≡ Some (get_or places i 0)
  pub before : (z : ℕ) → z < first → led (from + z) ≡ None
  pub after : (z : ℕ) → first + length places ≤ z → z < total → led (from + z) ≡ None
