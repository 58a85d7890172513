-- From a pixel of a scene or group to the pixel of an item's child that it shows.
use Rattle.std.specs.Prelude.{ℕ, ◌+◌, ◌*◌, ◌/◌, ◌-◌, ◌==◌, nat_lt, if◌then◌else◌}
use Rattle.std.specs.Prelude.{ℤ, pos, negsuc, ◌-ℤ◌, Option, Some, None, bit_and}
use Rattle.mix_model.specs.declared.place.Place.{Place}

-- a column and a row
abbrev pub Point : Type 0
Point = ℕ × ℕ

-- what is left of a side between two crops, nothing where they meet
abbrev pub cropped : ℕ → ℕ → ℕ → ℕ
cropped side before after = side - (before + after)

-- the child's size, cropped and scaled
abbrev pub scaled_width : Place → ℕ → ℕ
scaled_width place width = cropped width place.crop_left place.crop_right * place.scale_x

abbrev pub scaled_height : Place → ℕ → ℕ
scaled_height place height = cropped height place.crop_top place.crop_bottom * place.scale_y

-- one of two for the upright turns, of 0 and 180 degrees, the other for those to the side
abbrev pub turned_choice : {A : Type 0} → ℕ → A → A → A
turned_choice quarter upright aside = if quarter == 0 then upright
    else (if quarter == 1 then aside else (if quarter == 2 then upright else aside))

-- how far before the position a box of this side begins: not at all where it is aligned by its near
-- edge, by the whole side where by its far edge, else by half of it
abbrev pub back : ℕ → ℕ → ℕ → ℕ → ℕ
back align near far side = if bit_and align near == near then 0
    else (if bit_and align far == far then side else side / 2)

-- the place within a side of this length, or nothing outside it
abbrev pub within : ℤ → ℕ → Option ℕ
within (pos i) side = if nat_lt i side then Some i else None
within (negsuc _) side = None

-- the place in the upright box of the place (i, j) in the turned one
abbrev pub upright : ℕ → ℕ → ℕ → ℕ → ℕ → Point
upright quarter sw sh i j = if quarter == 0 then (i, j)
    else (if quarter == 1 then (j, sh - 1 - i)
    else (if quarter == 2 then (sw - 1 - i, sh - 1 - j) else (sw - 1 - j, i)))

-- from the place in the upright box to the child's pixel
abbrev pub unscaled : Place → Point → Point
unscaled place p =
    (place.crop_left + p.0 / place.scale_x, place.crop_top + p.1 / place.scale_y)

-- what is made of both, where both are there
abbrev pub both : Option ℕ → Option ℕ → (ℕ → ℕ → Point) → Option Point
both (Some i) (Some j) f = Some (f i j)
both _ _ f = None

-- the pixel of the child, of this width and height, that the pixel (x, y) shows, or nothing outside
-- the item's box
abbrev pub inner_of : Place → ℕ → ℕ → ℕ → ℕ → Option Point
inner_of place width height x y =
    let sw : ℕ = scaled_width place width in
    let sh : ℕ = scaled_height place height in
    let bw : ℕ = turned_choice place.quarter sw sh in
    let bh : ℕ = turned_choice place.quarter sh sw in
    both (within (pos (x + back place.align 1 2 bw) -ℤ place.x) bw)
    (within (pos (y + back place.align 4 8 bh) -ℤ place.y) bh)
    (λ i j. unscaled place (upright place.quarter sw sh i j))
