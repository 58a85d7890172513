-- The columns, or rows, of a span lead into the source, and no others.
use Rattle.std.proofs.Common.{◌≡◌, ℕ, ◌<◌, ◌≤◌, ◌+◌, ◌-◌, ◌*◌, ◌/◌, ◌⊎◌, inl, inr, List, [], ◌∷◌, refl, ap, ◌∙◌, sym, subst}
use Rattle.std.proofs.Common.{Bool, true, false, Option, Some, None, IsTrue, arith}
use Rattle.std.proofs.Common.{suc, length, take, drop, get_or, add-one}
use Rattle.std.proofs.Math.Seq.{drop-cons}
use Rattle.std.proofs.lemmas.List.{length-take-le, get_or-take, drop_all}
use Rattle.std.specs.Prelude.{IsSome, min, max, nat_lt, option_map, option_and_then, if◌then◌else◌}
use Rattle.std.specs.Prelude.{ℤ, pos, negsuc, ◌+ℤ◌, ◌-ℤ◌, ◌≤ℤ◌}
use Rattle.std.specs.List.{list_all}
use Rattle.std.proofs.lemmas.Bool.Decides.{nat_tests}
use Rattle.std.proofs.lemmas.Int.{ints}
use Rattle.std.proofs.Math.Nat.{le-div_iff_mul-le, div-lt_iff_lt-mul}
use Rattle.mix_model.specs.declared.draw.Step.{Step}
use Rattle.mix_model.specs.Placing.{within, turned_choice}
use Rattle.mix_model.specs.Plans.{is_step}
use Rattle.mix_raster.specs.declared.axis.Axis.{Axis}
use Rattle.mix_raster.specs.Axes.{axis_through, counted, led_by, axis_reached, exchanged_by, is_aside}
use Rattle.mix_raster.specs.Spans.{cut, or_first, span_led}
use Rattle.mix_raster.specs.Spans.{IsClipped, IsSpan, Leads}
use Rattle.mix_raster.proofs.Ranges.{both_true, StepRanges, step_ranges}

-- places counted from the end that the axis counts from
before_is : (crop scale side u k : ℕ) → 0 < scale → k < side →
    k < min ((u - crop) * scale) side → crop + k / scale < u
before_is crop scale side u k some inside h =
    let q : k / scale < u - crop = (div-lt_iff_lt-mul some).1 (omega arith) in omega (arith, q)

after_is : (crop scale side u k : ℕ) → 0 < scale → k < side →
    min ((u - crop) * scale) side ≤ k → u ≤ crop + k / scale
after_is crop scale side u k some inside h =
    let q : u - crop ≤ k / scale = (le-div_iff_mul-le some).1 (omega arith) in omega (arith, q)

-- the place in a box, by what lies before it
laid_after : (position : ℤ) (back b z : ℕ) → or_first (pos b +ℤ position -ℤ pos back) ≤ z →
    pos b ≤ℤ (pos (z + back) -ℤ position)
laid_after position back b z h = by_sign (pos b +ℤ position -ℤ pos back) refl h where
  by_sign : (e : ℤ) → pos b +ℤ position -ℤ pos back ≡ e → or_first e ≤ z →
      pos b ≤ℤ (pos (z + back) -ℤ position)
  by_sign (pos i) is h = omega (arith, ints)
  by_sign (negsuc i) is h = omega (arith, ints)

laid_before : (position : ℤ) (back b z : ℕ) → z < or_first (pos b +ℤ position -ℤ pos back) →
    (pos (z + back) -ℤ position +ℤ pos 1) ≤ℤ pos b
laid_before position back b z h = by_sign (pos b +ℤ position -ℤ pos back) refl h where
  by_sign : (e : ℤ) → pos b +ℤ position -ℤ pos back ≡ e → z < or_first e →
      (pos (z + back) -ℤ position +ℤ pos 1) ≤ℤ pos b
  by_sign (pos i) is h = omega (arith, ints)
  by_sign (negsuc i) is h = absurd (omega arith)

-- the place in a box, or nothing
in_box : (e : ℤ) (side i : ℕ) → within e side ≡ Some i → (e ≡ pos i) × (i < side)
in_box (pos k) side i is = by_test (nat_lt k side) refl is where
  by_test : (p : Bool) → nat_lt k side ≡ p → (if p then Some k else None) ≡ Some i →
      (pos k ≡ pos i) × (i < side)
  by_test true small is =
      let same : k ≡ i = cc in
      let below : k < side = grind (arith, nat_tests) in (ap pos same, omega arith)
  by_test false small is = cc
in_box (negsuc k) side i is = cc

record InBox (e : ℤ) (side : ℕ) : Type 0 where
  place : ℕ
  is : within e side ≡ Some place
  at : e ≡ pos place

box_at : (e : ℤ) (side b : ℕ) → pos b ≤ℤ e → (e +ℤ pos 1) ≤ℤ pos side → InBox e side
box_at (pos k) side b low high =
    let below : k < side = omega (arith, ints) in
    let test : nat_lt k side ≡ true = grind (arith, nat_tests) in
    record { place = k; is = ap (λ p. if p then Some k else None) test; at = refl }
box_at (negsuc k) side b low high = absurd (omega (arith, ints))

-- a place that leads between two others
record Led (led : Option ℕ) (span : ℕ × ℕ) : Type 0 where
  place : ℕ
  is : led ≡ Some place
  low : span.0 ≤ place
  high : place < span.1

-- one axis, by its fields
module _ (side crop scale back : ℕ) (position : ℤ) (some : 0 < scale) where
  abbrev led : Bool → ℕ → Option ℕ
  led mirrored z = option_map (λ i. crop + (if mirrored then side - 1 - i else i) / scale)
      (within (pos (z + back) -ℤ position) side)

  abbrev before : ℕ → ℕ
  before u = min ((u - crop) * scale) side

  abbrev at_place : ℕ → ℕ
  at_place i = or_first (pos i +ℤ position -ℤ pos back)

  abbrev first_of : Bool → ℕ × ℕ → ℕ
  first_of mirrored span = at_place (if mirrored then side - before span.1 else before span.0)

  abbrev end_of : Bool → ℕ × ℕ → ℕ
  end_of mirrored span = at_place (if mirrored then side - before span.0 else before span.1)

  inside : (mirrored : Bool) (span : ℕ × ℕ) (z : ℕ) → first_of mirrored span ≤ z →
      z < end_of mirrored span → Led (led mirrored z) span
  inside false span z low high =
      let above = laid_after position back (before span.0) z low in
      let under = laid_before position back (before span.1) z high in
      let box : InBox (pos (z + back) -ℤ position) side =
      box_at (pos (z + back) -ℤ position) side (before span.0) above (omega (arith, ints, under)) in
      let i : ℕ = box.place in
      let at : pos (z + back) -ℤ position ≡ pos i = box.at in
      let from : before span.0 ≤ i = omega (arith, ints, above, at) in
      let to : i < before span.1 = omega (arith, ints, under, at) in
      record {
        place = crop + i / scale;
        is = ap (option_map (λ i. crop + i / scale)) box.is;
        low = after_is crop scale side span.0 i some (omega arith) from;
        high = before_is crop scale side span.1 i some (omega arith) to;
      }
  inside true span z low high =
      let above = laid_after position back (side - before span.1) z low in
      let under = laid_before position back (side - before span.0) z high in
      let box : InBox (pos (z + back) -ℤ position) side =
      box_at (pos (z + back) -ℤ position) side (side - before span.1) above
      (omega (arith, ints, under)) in
      let i : ℕ = box.place in
      let at : pos (z + back) -ℤ position ≡ pos i = box.at in
      let from : side - before span.1 ≤ i = omega (arith, ints, above, at) in
      let to : i < side - before span.0 = omega (arith, ints, under, at) in
      record {
        place = crop + (side - 1 - i) / scale;
        is = ap (option_map (λ i. crop + (side - 1 - i) / scale)) box.is;
        low = after_is crop scale side span.0 (side - 1 - i) some (omega arith) (omega arith);
        high = before_is crop scale side span.1 (side - 1 - i) some (omega arith) (omega arith);
      }

  outside : (mirrored : Bool) (span : ℕ × ℕ) (z u : ℕ) → led mirrored z ≡ Some u →
      (z < first_of mirrored span) ⊎ (end_of mirrored span ≤ z) → (u < span.0) ⊎ (span.1 ≤ u)
  outside mirrored span z u is out = by_box (within (pos (z + back) -ℤ position) side) refl is where
    at_box : (mirrored : Bool) (i : ℕ) → pos (z + back) -ℤ position ≡ pos i → i < side →
        crop + (if mirrored then side - 1 - i else i) / scale ≡ u →
        (z < first_of mirrored span) ⊎ (end_of mirrored span ≤ z) → (u < span.0) ⊎ (span.1 ≤ u)
    at_box false i at small value (inl early) =
        let under = laid_before position back (before span.0) z early in
        let h = before_is crop scale side span.0 i some small (omega (arith, ints, under, at)) in
        inl (omega (arith, h, value))
    at_box false i at small value (inr late) =
        let above = laid_after position back (before span.1) z late in
        let h = after_is crop scale side span.1 i some small (omega (arith, ints, above, at)) in
        inr (omega (arith, h, value))
    at_box true i at small value (inl early) =
        let under = laid_before position back (side - before span.1) z early in
        let h = after_is crop scale side span.1 (side - 1 - i) some (omega arith)
        (omega (arith, ints, under, at)) in
        inr (omega (arith, h, value))
    at_box true i at small value (inr late) =
        let above = laid_after position back (side - before span.0) z late in
        let h = before_is crop scale side span.0 (side - 1 - i) some (omega arith)
        (omega (arith, ints, above, at)) in
        inl (omega (arith, h, value))

    by_box : (o : Option ℕ) → within (pos (z + back) -ℤ position) side ≡ o →
        option_map (λ i. crop + (if mirrored then side - 1 - i else i) / scale) o ≡ Some u →
        (u < span.0) ⊎ (span.1 ≤ u)
    by_box (Some i) box same =
        let found : (pos (z + back) -ℤ position ≡ pos i) × (i < side) =
        in_box (pos (z + back) -ℤ position) side i box in
        let value : crop + (if mirrored then side - 1 - i else i) / scale ≡ u = cc in
        at_box mirrored i found.0 found.1 value out
    by_box None box same = cc

-- each step scales by something
scaled : (down : Bool) (step : Step) → IsTrue (is_step step) → 0 < (axis_through down step).scale
scaled down step valid = by_way down (step_ranges step valid) where
  some : (q a b : ℕ) → 0 < a → 0 < b → 0 < turned_choice q a b
  some q a b h k = grind (arith, nat_tests)

  by_way : (down : Bool) → StepRanges step → 0 < (axis_through down step).scale
  by_way true r = some step.place.quarter step.place.scale_y step.place.scale_x
      r.ranges.scaled_down r.ranges.scaled
  by_way false r = some step.place.quarter step.place.scale_x step.place.scale_y
      r.ranges.scaled r.ranges.scaled_down

-- a place within the side, by its test
cut_inside : (side u : ℕ) → u < side → cut side (Some u) ≡ Some u
cut_inside side u h =
    let test : nat_lt u side ≡ true = grind (arith, nat_tests) in
    ap (λ p. if p then Some u else None) test

cut_outside : (side u : ℕ) → side ≤ u → cut side (Some u) ≡ None
cut_outside side u h =
    let test : nat_lt u side ≡ false = grind (arith, nat_tests) in
    ap (λ p. if p then Some u else None) test

-- the places of a span lead into the side
led_inside : (down : Bool) (steps : List Step) (side z : ℕ) → IsTrue (list_all is_step steps) →
    (span_led down steps side).0 ≤ z → z < (span_led down steps side).1 →
    Led (axis_reached down steps z) (0, side)
led_inside down [] side z valid low high =
    record { place = z; is = refl; low = omega arith; high = high }
led_inside down (step ∷ steps) side z valid low high =
    let both = both_true (is_step step) (list_all is_step steps) valid in
    let axis : Axis = axis_through down step in
    let turned : Bool = exchanged_by (is_aside step.place.quarter) down in
    let one : Led (led_by axis z) (span_led turned steps side) =
    inside axis.side axis.crop axis.scale axis.back axis.position (scaled down step both.0)
    axis.mirrored (span_led turned steps side) z low high in
    let rest : Led (axis_reached turned steps one.place) (0, side) =
    led_inside turned steps side one.place both.1 one.low one.high in
    record {
      place = rest.place;
      is = ap (option_and_then (axis_reached turned steps)) one.is ∙ rest.is;
      low = rest.low;
      high = rest.high;
    }

-- and no others
led_outside : (down : Bool) (steps : List Step) (side z : ℕ) →
    IsTrue (list_all is_step steps) →
    (z < (span_led down steps side).0) ⊎ ((span_led down steps side).1 ≤ z) →
    cut side (axis_reached down steps z) ≡ None
led_outside down [] side z valid (inl early) = absurd (omega arith)
led_outside down [] side z valid (inr late) = cut_outside side z late
led_outside down (step ∷ steps) side z valid out =
    by_place (λ u far. led_outside (exchanged_by (is_aside step.place.quarter) down) steps side u
    (both_true (is_step step) (list_all is_step steps) valid).1 far)
    (led_by (axis_through down step) z) refl where
      by_place : ((u : ℕ) →
          (u < (span_led (exchanged_by (is_aside step.place.quarter) down) steps side).0)
          ⊎ ((span_led (exchanged_by (is_aside step.place.quarter) down) steps side).1 ≤ u) →
          cut side (axis_reached (exchanged_by (is_aside step.place.quarter) down) steps u) ≡ None) →
          (o : Option ℕ) → led_by (axis_through down step) z ≡ o → cut side (option_and_then
          (axis_reached (exchanged_by (is_aside step.place.quarter) down) steps) o) ≡ None
      by_place rest None is = refl
      by_place rest (Some u) is =
          let both = both_true (is_step step) (list_all is_step steps) valid in
          let axis : Axis = axis_through down step in
          rest u (outside axis.side axis.crop axis.scale axis.back axis.position
          (scaled down step both.0) axis.mirrored
          (span_led (exchanged_by (is_aside step.place.quarter) down) steps side) z u is out)

-- so a span is just the places that lead into the side
pub span_is : (down : Bool) (steps : List Step) (side : ℕ) → IsTrue (list_all is_step steps) →
    IsSpan (span_led down steps side) (λ z. cut side (axis_reached down steps z))
span_is down steps side valid = record {
  inside = λ z low high.
      let leads : Led (axis_reached down steps z) (0, side) =
      led_inside down steps side z valid low high in
      subst (λ (o : Option ℕ). IsSome o)
      (sym (ap (cut side) leads.is ∙ cut_inside side leads.place leads.high)) refl;
  outside = λ z out. led_outside down steps side z valid out;
}

-- what is cut off a side, where some is left, is what it was
cut_same : (side : ℕ) (o : Option ℕ) → IsSome (cut side o) → cut side o ≡ o
cut_same side None is = refl
cut_same side (Some v) is = by_test (nat_lt v side) is where
  by_test : (p : Bool) → IsSome (if p then Some v else None) →
      (if p then Some v else None) ≡ Some v
  by_test true is = refl
  by_test false is = cc

-- a place that is led on by a step, and then by the rest of the steps
pub lead_step : (down : Bool) (step : Step) (rest : List Step) (z t u : ℕ) →
    axis_reached down (step ∷ rest) z ≡ Some u →
    ((v : ℕ) → led_by (axis_through down step) z ≡ Some v → t ≡ v) →
    axis_reached (exchanged_by (is_aside step.place.quarter) down) rest t ≡ Some u
lead_step down step rest z t u is each = by_place (led_by (axis_through down step) z) refl is where
  by_place : (o : Option ℕ) → led_by (axis_through down step) z ≡ o →
      option_and_then (axis_reached (exchanged_by (is_aside step.place.quarter) down) rest) o
      ≡ Some u → axis_reached (exchanged_by (is_aside step.place.quarter) down) rest t ≡ Some u
  by_place None found is = cc
  by_place (Some v) found is =
      ap (axis_reached (exchanged_by (is_aside step.place.quarter) down) rest) (each v found) ∙ is

-- the part of a span, by what it is cut to
pub clipped : (span : ℕ × ℕ) (from total first end : ℕ) → first ≡ min (span.0 - from) total →
    end ≡ max (min (span.1 - from) total) first → IsClipped span from total (first, end)
clipped span from total first end begun ended = record {
  rising = omega arith;
  within = omega arith;
  inside = λ z low high. (omega arith, omega arith);
  before = λ z low. omega arith;
  after = λ z low high. omega arith;
}

led_at : (side : ℕ) (o : Option ℕ) (t : ℕ) → IsSome (cut side o) →
    ((u : ℕ) → o ≡ Some u → t ≡ u) → cut side o ≡ Some t
led_at side None t some each = cc
led_at side (Some v) t some each =
    let same : Some v ≡ Some t = ap (λ (u : ℕ). Some u) (sym (each v refl)) in
    cut_same side (Some v) some ∙ same

-- counted places that are led on are those of a part of a span
pub table_leads : (down : Bool) (steps : List Step) (side from total first end count : ℕ)
    (span : ℕ × ℕ) (counted now : List ℕ) →
    IsSpan span (λ z. cut side (axis_reached down steps z)) →
    IsClipped span from total (first, end) → count ≡ end - first → count ≤ length now →
    ((i : ℕ) → i < count → get_or counted i 0 ≡ from + first + i) →
    ((i u : ℕ) → i < count → axis_reached down steps (get_or counted i 0) ≡ Some u →
    get_or now i 0 ≡ u) →
    Leads (λ z. cut side (axis_reached down steps z)) from total first (take count now)
table_leads down steps side from total first end count span counted now is part long fits begun led =
    let rising : first ≤ end = part.rising in
    let within : end ≤ total = part.within in
    let size : length (take count now) ≡ count = length-take-le count now fits in record {
      within = omega arith;
      inside = λ i small. inside i (omega arith);
      before = λ z low. is.outside (from + z) (inl (part.before z low));
      after = λ z low high. is.outside (from + z) (inr (part.after z (omega arith) high));
    } where
      inside : (i : ℕ) → i < count → cut side (axis_reached down steps (from + (first + i)))
          ≡ Some (get_or (take count now) i 0)
      inside i small =
          let place : get_or counted i 0 ≡ from + (first + i) = omega (arith, begun i small) in
          let rising : first ≤ end = part.rising in
          let at = part.inside (first + i) (omega arith) (omega arith) in
          let same : get_or now i 0 ≡ get_or (take count now) i 0 =
          sym (get_or-take count now i 0 small) in
          led_at side (axis_reached down steps (from + (first + i))) (get_or now i 0)
          (is.inside (from + (first + i)) at.0 at.1)
          (λ u reached. led i u small (ap (axis_reached down steps) place ∙ reached))
          ∙ ap (λ (u : ℕ). Some u) same

-- one step of many
pub follow_step : (down turned aside : Bool) (steps : List Step) (idx : ℕ) (d : Step) (axis : Axis)
    (z t u : ℕ) → idx < length steps → axis ≡ axis_through down (get_or steps idx d) →
    aside ≡ is_aside (get_or steps idx d).place.quarter → turned ≡ exchanged_by aside down →
    axis_reached down (drop idx steps) z ≡ Some u →
    ((v : ℕ) → led_by axis z ≡ Some v → t ≡ v) →
    axis_reached turned (drop (idx + 1) steps) t ≡ Some u
follow_step down turned aside steps idx d axis z t u small is turns by reached each =
    let first : drop idx steps ≡ get_or steps idx d ∷ drop (suc idx) steps =
    drop-cons steps idx d small in
    let rest : drop (idx + 1) steps ≡ drop (suc idx) steps =
    ap (λ (n : ℕ). drop n steps) (add-one idx) in
    let from : axis_reached down (get_or steps idx d ∷ drop (suc idx) steps) z ≡ Some u =
    sym (ap (λ s. axis_reached down s z) first) ∙ reached in
    let on : (v : ℕ) → led_by (axis_through down (get_or steps idx d)) z ≡ Some v → t ≡ v =
    λ v at. each v (ap (λ x. led_by x z) is ∙ at) in
    ap (λ s. axis_reached turned s t) rest
    ∙ ap (λ b. axis_reached b (drop (suc idx) steps) t)
    (by ∙ ap (λ b. exchanged_by b down) turns)
    ∙ lead_step down (get_or steps idx d) (drop (suc idx) steps) z t u from on

-- and none
pub follow_end : (down : Bool) (steps : List Step) (idx t u : ℕ) → length steps ≤ idx →
    axis_reached down (drop idx steps) t ≡ Some u → t ≡ u
follow_end down steps idx t u all is =
    let end : axis_reached down (drop idx steps) t ≡ axis_reached down [] t =
    ap (λ s. axis_reached down s t) (drop_all idx steps all) in
    let same : ◌≡◌ {A = Option ℕ} (Some t) (Some u) = sym end ∙ is in cc
