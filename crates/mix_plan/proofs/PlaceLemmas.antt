-- A pixel that an item shows is a pixel of its child.
use Rattle.std.proofs.Common.{◌≡◌, ℕ, zero, suc, ◌<◌, ◌+◌, ◌-◌, ◌*◌, ◌/◌, arith, refl, Bool, true}
use Rattle.std.proofs.Common.{false, cond, nat_lt, lt-ltb, ltb-true, ℤ, pos, negsuc, Option, Some, None}
use Rattle.std.specs.Prelude.{◌==◌, ◌-ℤ◌}
use Rattle.std.proofs.Math.Nat.{div-lt_iff_lt-mul}
use Rattle.mix_model.specs.declared.place.Place.{Place}
use Rattle.mix_model.specs.Placing.{Point, within, both, upright, unscaled, turned_choice, cropped}
use Rattle.mix_model.specs.Placing.{scaled_width, scaled_height, inner_of, back}
use Rattle.mix_model.specs.Drawing.{is_inside}
use Rattle.mix_model.proofs.SetLemmas.{and_both}

-- nothing, or a point within the size
abbrev pub lies_in : ℕ × ℕ → Option Point → Bool
lies_in size None = true
lies_in size (Some p) = is_inside size p.0 p.1

-- nothing, or a place below the side
abbrev Below : ℕ → Option ℕ → Type 0
Below side None = Unit {0}
Below side (Some i) = i < side

-- what is found within a side is below it
found_below : (z : ℤ) (side : ℕ) → Below side (within z side)
found_below (negsuc i) side = tt
found_below (pos i) side = by_test (nat_lt i side) (ltb-true i side) where
  by_test : (b : Bool) → (b ≡ true → i < side) → Below side (cond b (Some i) None)
  by_test true below = below refl
  by_test false below = tt

-- a place in the turned box stands for one in the upright box
turned_back : (none quarter half : Bool) (sw sh i j : ℕ) →
    i < cond none sw (cond quarter sh (cond half sw sh)) →
    j < cond none sh (cond quarter sw (cond half sh sw)) →
    let p : Point = cond none (i, j) (cond quarter (j, sh - 1 - i)
    (cond half (sw - 1 - i, sh - 1 - j) (sw - 1 - j, i))) in (p.0 < sw) × (p.1 < sh)
turned_back true quarter half sw sh i j across down = (across, down)
turned_back false true half sw sh i j across down = (down, omega arith)
turned_back false false true sw sh i j across down = (omega arith, omega arith)
turned_back false false false sw sh i j across down = (omega arith, across)

-- a place in the scaled side stands for one between the crops
scaled_back : (p side before after scale : ℕ) → p < cropped side before after * scale →
    before + p / scale < side
scaled_back p side before after zero below = absurd (omega arith)
scaled_back p side before after (suc n) below =
    let left : p / suc n < side - (before + after) =
    (div-lt_iff_lt-mul {k = suc n} {x = p} {y = side - (before + after)} (omega arith)).1 below in
    omega (arith, left)

-- what is made of two places below their sides
both_lie : (across down : Option ℕ) (f : ℕ → ℕ → Point) (bw bh : ℕ) (size : ℕ × ℕ) →
    Below bw across → Below bh down →
    ((i j : ℕ) → i < bw → j < bh → is_inside size (f i j).0 (f i j).1 ≡ true) →
    lies_in size (both across down f) ≡ true
both_lie None down f bw bh size i_below j_below made = refl
both_lie (Some i) None f bw bh size i_below j_below made = refl
both_lie (Some i) (Some j) f bw bh size i_below j_below made = made i j i_below j_below

-- the pixel of an item's child lies within the child's size
pub inner_lies : (place : Place) (width height x y : ℕ) →
    lies_in (width, height) (inner_of place width height x y) ≡ true
inner_lies place width height x y =
    let sw : ℕ = scaled_width place width in
    let sh : ℕ = scaled_height place height in
    let bw : ℕ = turned_choice place.quarter sw sh in
    let bh : ℕ = turned_choice place.quarter sh sw in
    let across : ℤ = pos (x + back place.align 1 2 bw) -ℤ place.x in
    let down : ℤ = pos (y + back place.align 4 8 bh) -ℤ place.y in
    both_lie (within across bw) (within down bh)
    (λ i j. unscaled place (upright place.quarter sw sh i j)) bw bh (width, height)
    (found_below across bw) (found_below down bh) (λ i j i_below j_below.
    let p = turned_back (place.quarter == 0) (place.quarter == 1) (place.quarter == 2) sw sh i j
    i_below j_below in
    and_both _ _ (lt-ltb _ _ (scaled_back _ width place.crop_left place.crop_right place.scale_x p.0))
    (lt-ltb _ _ (scaled_back _ height place.crop_top place.crop_bottom place.scale_y p.1)))
