-- The fields of a transform: their keys, their ranges, and the order in which they are read.
use Rattle.std.specs.Prelude.{ℕ, ◌*◌, ◌==◌, Bool, false, List, [], ◌∷◌, codes}
use Rattle.std.specs.Prelude.{ℤ, pos, negsuc, if◌then◌else◌, Option, Some, None}
use Rattle.mix_model.specs.Values.{is_within, is_align}

-- a field that holds a whole number, with the least and the greatest that it may hold
pub record WholeField : Type 0 where
  pub key : List ℕ
  pub least : ℤ
  pub most : ℤ

-- whether the number is in the field's range
abbrev pub in_field : WholeField → ℤ → Bool
in_field field z = is_within field.least field.most z

abbrev pub field : List ℕ → ℤ → ℤ → WholeField
field key least most = record { key = key; least = least; most = most }

abbrev pub alignment_field : WholeField
alignment_field = field (codes "alignment") (pos 0) (pos 15)

-- a crop on one side, in pixels
abbrev pub crop_field : List ℕ → WholeField
crop_field key = field key (pos 0) (pos 100000)

abbrev pub position_field : List ℕ → WholeField
position_field key = field key (negsuc 89999) (pos 90000)

abbrev pub rotation_field : WholeField
rotation_field = field (codes "rotation") (negsuc 269) (pos 270)

abbrev pub scale_field : List ℕ → WholeField
scale_field key = field key (pos 1) (pos 16)

-- the fields in the order in which they are read
abbrev pub transform_fields : List WholeField
transform_fields = alignment_field
    ∷ (crop_field (codes "cropBottom")
    ∷ (crop_field (codes "cropLeft")
    ∷ (crop_field (codes "cropRight")
    ∷ (crop_field (codes "cropTop")
    ∷ (position_field (codes "positionX")
    ∷ (position_field (codes "positionY")
    ∷ (rotation_field
    ∷ (scale_field (codes "scaleX")
    ∷ (scale_field (codes "scaleY") ∷ [])))))))))

-- an alignment is in its field's range, and has no two opposite sides at once
abbrev pub is_alignment : ℤ → Bool
is_alignment (pos n) = is_align n
is_alignment (negsuc n) = false

-- a rotation by whole quarter turns is kept as 0 to 3 quarter turns to the right; no other one is
-- allowed
abbrev pub quarter_of : ℤ → Option ℕ
quarter_of (pos n) = if n == 0 then Some 0 else (if n == 90 then Some 1
    else (if n == 180 then Some 2 else (if n == 270 then Some 3 else None)))
quarter_of (negsuc n) = if n == 89 then Some 3 else (if n == 179 then Some 2
    else (if n == 269 then Some 1 else None))

-- the rotation that is answered, in degrees
abbrev pub rotation_of : ℕ → ℕ
rotation_of quarter = 90 * quarter
