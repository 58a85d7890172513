-- Columns and rows lead on apart from each other.
use Rattle.std.proofs.Common.{◌≡◌, ℕ, ◌+◌, ◌-◌, ◌/◌, List, [], ◌∷◌, refl, ap, ◌∙◌, sym}
use Rattle.std.proofs.Common.{Bool, true, false, Option, Some, None}
use Rattle.std.specs.Prelude.{not, option_map, option_and_then, if◌then◌else◌, ◌==◌, pos, ◌-ℤ◌}
use Rattle.mix_model.specs.Placing.{Point, both, within, back, turned_choice, inner_of}
use Rattle.mix_model.specs.Placing.{scaled_width, scaled_height}
use Rattle.mix_model.specs.Plans.{reached}
use Rattle.mix_model.specs.declared.draw.Step.{Step}
use Rattle.mix_raster.specs.Axes.{is_aside, axis_through, led_by, exchanged_by, axis_reached, exchanged}

-- the pixel in a column and a row, perhaps exchanged
abbrev pub crossing : Bool → Option ℕ → Option ℕ → Option Point
crossing false (Some a) (Some b) = Some (a, b)
crossing true (Some a) (Some b) = Some (b, a)
crossing swap _ _ = None

-- one of two by the three tests of a turn, and the tests of the far ends
abbrev pick : {A : Type 0} → Bool → Bool → Bool → A → A → A
pick none once twice upright aside =
    if none then upright else (if once then aside else (if twice then upright else aside))

abbrev far_across : Bool → Bool → Bool → Bool
far_across none once twice =
    if none then false else (if once then true else (if twice then true else false))

abbrev far_down : Bool → Bool → Bool → Bool
far_down none once twice =
    if none then false else (if once then false else (if twice then true else true))

abbrev turned_back : Bool → Bool → Bool → ℕ → ℕ → ℕ → ℕ → Point
turned_back none once twice wide high i j = if none then (i, j)
    else (if once then (j, high - 1 - i)
    else (if twice then (wide - 1 - i, high - 1 - j) else (wide - 1 - j, i)))

-- each of the four turns
turn_apart : (none once twice : Bool) (left top sx sy wide high : ℕ) (oi oj : Option ℕ) →
    both oi oj (λ i j. let p : Point = turned_back none once twice wide high i j in
    let q : Point = (left + p.0 / sx, top + p.1 / sy) in q)
    ≡ crossing (pick none once twice false true)
    (option_map (λ i. pick none once twice left top
    + (if far_across none once twice then pick none once twice wide high - 1 - i else i)
    / pick none once twice sx sy) oi)
    (option_map (λ j. pick none once twice top left
    + (if far_down none once twice then pick none once twice high wide - 1 - j else j)
    / pick none once twice sy sx) oj)
turn_apart true once twice left top sx sy wide high (Some i) (Some j) = refl
turn_apart false true twice left top sx sy wide high (Some i) (Some j) = refl
turn_apart false false true left top sx sy wide high (Some i) (Some j) = refl
turn_apart false false false left top sx sy wide high (Some i) (Some j) = refl
turn_apart true once twice left top sx sy wide high (Some i) None = refl
turn_apart false true twice left top sx sy wide high (Some i) None = refl
turn_apart false false true left top sx sy wide high (Some i) None = refl
turn_apart false false false left top sx sy wide high (Some i) None = refl
turn_apart true once twice left top sx sy wide high None oj = refl
turn_apart false true twice left top sx sy wide high None oj = refl
turn_apart false false true left top sx sy wide high None oj = refl
turn_apart false false false left top sx sy wide high None oj = refl

step_apart : (step : Step) (x y : ℕ) → inner_of step.place step.width step.height x y
    ≡ crossing (is_aside step.place.quarter) (led_by (axis_through false step) x)
    (led_by (axis_through true step) y)
step_apart step x y =
    let place = step.place in
    let wide : ℕ = scaled_width place step.width in
    let high : ℕ = scaled_height place step.height in
    let bw : ℕ = turned_choice place.quarter wide high in
    let bh : ℕ = turned_choice place.quarter high wide in
    turn_apart (place.quarter == 0) (place.quarter == 1) (place.quarter == 2) place.crop_left
    place.crop_top place.scale_x place.scale_y wide high
    (within (pos (x + back place.align 1 2 bw) -ℤ place.x) bw)
    (within (pos (y + back place.align 4 8 bh) -ℤ place.y) bh)

-- exchanged once more
flipped : (swap : Bool) (a b : Option ℕ) → crossing swap b a ≡ crossing (not swap) a b
flipped true (Some a) (Some b) = refl
flipped true (Some a) None = refl
flipped true None (Some b) = refl
flipped true None None = refl
flipped false (Some a) (Some b) = refl
flipped false (Some a) None = refl
flipped false None (Some b) = refl
flipped false None None = refl

-- no pixel without a row, and none without a column
no_row : (swap : Bool) (a : Option ℕ) → crossing swap a None ≡ None
no_row true (Some a) = refl
no_row true None = refl
no_row false (Some a) = refl
no_row false None = refl

no_column : (swap : Bool) (b : Option ℕ) → crossing swap None b ≡ None
no_column true b = refl
no_column false b = refl

-- the rest of the steps, from where the first one leads to
rest_leads : (steps : List Step) → ((u v : ℕ) → reached steps u v
    ≡ crossing (exchanged steps) (axis_reached false steps u) (axis_reached true steps v)) →
    (swap : Bool) (a b : Option ℕ) →
    option_and_then (λ p. reached steps p.0 p.1) (crossing swap a b)
    ≡ crossing (exchanged_by swap (exchanged steps))
    (option_and_then (axis_reached (exchanged_by swap false) steps) a)
    (option_and_then (axis_reached (exchanged_by swap true) steps) b)
rest_leads steps each false (Some u) (Some v) = each u v
rest_leads steps each true (Some u) (Some v) =
    each v u ∙ flipped (exchanged steps) (axis_reached true steps u) (axis_reached false steps v)
rest_leads steps each false (Some u) None =
    sym (no_row (exchanged steps) (axis_reached false steps u))
rest_leads steps each true (Some u) None =
    sym (no_row (not (exchanged steps)) (axis_reached true steps u))
rest_leads steps each false None b = sym (no_column (exchanged steps) _)
rest_leads steps each true None b = sym (no_column (not (exchanged steps)) _)

pub steps_apart : (steps : List Step) (x y : ℕ) → reached steps x y
    ≡ crossing (exchanged steps) (axis_reached false steps x) (axis_reached true steps y)
steps_apart [] x y = refl
steps_apart (step ∷ steps) x y =
    ap (option_and_then (λ p. reached steps p.0 p.1)) (step_apart step x y)
    ∙ rest_leads steps (steps_apart steps) (is_aside step.place.quarter)
    (led_by (axis_through false step) x) (led_by (axis_through true step) y)
