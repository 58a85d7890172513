-- The ranges of a placement and of a step, as orders of numbers.
use Rattle.std.proofs.Common.{◌≡◌, List, ◌<◌, ◌≤◌, ℕ, Bool, IsTrue, arith}
use Rattle.std.specs.Prelude.{◌&&◌, nat_le, nat_lt, Option, Some}
use Rattle.std.proofs.Common.{subst}
use Rattle.std.proofs.lemmas.Bool.Decides.{nat_tests}
use Rattle.mix_model.specs.declared.place.Place.{Place}
use Rattle.mix_model.specs.declared.draw.Step.{Step}
use Rattle.mix_model.specs.declared.draw.Draw.{Draw}
use Rattle.mix_model.specs.declared.draw.Shot.{Shot}
use Rattle.std.specs.List.{list_all}
use Rattle.mix_model.specs.Values.{is_place, is_between, is_align, are_valid}
use Rattle.mix_model.specs.Plans.{is_step, is_draw, has_settings, is_shot}
use Rattle.mix_model.specs.Plans.{are_paintable, are_paintable_or_none}

pub record Ranges (place : Place) : Type 0 where
  pub scaled : 0 < place.scale_x
  pub scale : place.scale_x ≤ 16
  pub scaled_down : 0 < place.scale_y
  pub scale_down : place.scale_y ≤ 16
  pub turned : place.quarter ≤ 3
  pub left : place.crop_left ≤ 100000
  pub top : place.crop_top ≤ 100000
  pub right : place.crop_right ≤ 100000
  pub bottom : place.crop_bottom ≤ 100000

-- both of two tests
pub both_true : (a b : Bool) → IsTrue (a && b) → IsTrue a × IsTrue b
both_true a b h = (grind (arith, nat_tests), grind (arith, nat_tests))

at_most : (n m : ℕ) → IsTrue (nat_le n m) → n ≤ m
at_most n m h = grind (arith, nat_tests)

-- a scale of 1 to 16
scale_between : (n : ℕ) → IsTrue (is_between 1 16 n) → (0 < n) × (n ≤ 16)
scale_between n h =
    let h' = both_true (nat_le 1 n) (nat_le n 16) h in
    let low : 1 ≤ n = at_most 1 n h'.0 in (omega arith, at_most n 16 h'.1)

pub ranges : (place : Place) → IsTrue (is_place place) → Ranges place
unfolding is_place
ranges place valid =
    let h9 = both_true _ (nat_le place.crop_bottom 100000) valid in
    let h8 = both_true _ (nat_le place.crop_right 100000) h9.0 in
    let h7 = both_true _ (nat_le place.crop_top 100000) h8.0 in
    let h6 = both_true _ (nat_le place.crop_left 100000) h7.0 in
    let h5 = both_true _ (is_align place.align) h6.0 in
    let h4 = both_true _ (nat_le place.quarter 3) h5.0 in
    let h3 = both_true _ (is_between 1 16 place.scale_y) h4.0 in
    let h2 = both_true _ (is_between 1 16 place.scale_x) h3.0 in
    let across = scale_between place.scale_x h2.1 in
    let down = scale_between place.scale_y h3.1 in
    record {
      scaled = across.0;
      scale = across.1;
      scaled_down = down.0;
      scale_down = down.1;
      turned = at_most place.quarter 3 h4.1;
      left = at_most place.crop_left 100000 h6.1;
      top = at_most place.crop_top 100000 h7.1;
      right = at_most place.crop_right 100000 h8.1;
      bottom = at_most place.crop_bottom 100000 h9.1;
    }

pub record StepRanges (step : Step) : Type 0 where
  pub place : IsTrue (is_place step.place)
  pub wide : step.width ≤ 4096
  pub high : step.height ≤ 4096
  pub ranges : Ranges step.place

pub step_ranges : (step : Step) → IsTrue (is_step step) → StepRanges step
step_ranges step valid =
    let h2 = both_true _ (nat_le step.height 4096) valid in
    let h1 = both_true (is_place step.place) (nat_le step.width 4096) h2.0 in
    record {
      place = h1.0;
      wide = at_most step.width 4096 h1.1;
      high = at_most step.height 4096 h2.1;
      ranges = ranges step.place h1.0;
    }

pub record DrawParts (draw : Draw) : Type 0 where
  pub shown : IsTrue (has_settings draw.settings)
  pub valid : IsTrue (are_valid draw.settings)
  pub steps : IsTrue (list_all is_step draw.steps)

pub draw_parts : (draw : Draw) → IsTrue (is_draw draw) → DrawParts draw
unfolding is_draw
draw_parts draw valid =
    let h2 = both_true _ (list_all is_step draw.steps) valid in
    let h1 = both_true (has_settings draw.settings) (are_valid draw.settings) h2.0 in
    record { shown = h1.0; valid = h1.1; steps = h2.1 }

-- the steps of a draw, as a list that is known to be theirs
pub draw_steps : (draw : Draw) (steps : List Step) → IsTrue (is_draw draw) →
    steps ≡ draw.steps → IsTrue (list_all is_step steps)
draw_steps draw steps valid is = rw is (draw_parts draw valid).steps

pub record ShotParts (tick : ℕ) (shot : Shot) : Type 0 where
  pub weights : shot.t < shot.n
  pub from : IsTrue (are_paintable tick shot.from)
  pub to : IsTrue (are_paintable_or_none tick shot.to)
  pub over : IsTrue (are_paintable tick shot.over)

below : (n m : ℕ) → IsTrue (nat_lt n m) → n < m
below n m h = grind (arith, nat_tests)

pub shot_parts : (tick : ℕ) (shot : Shot) → IsTrue (is_shot tick shot) → ShotParts tick shot
unfolding is_shot
shot_parts tick shot valid =
    let h3 = both_true _ (are_paintable tick shot.over) valid in
    let h2 = both_true _ (are_paintable_or_none tick shot.to) h3.0 in
    let h1 = both_true (nat_lt shot.t shot.n) (are_paintable tick shot.from) h2.0 in
    record { weights = below shot.t shot.n h1.0; from = h1.1; to = h2.1; over = h3.1 }

pub to_paintable : (tick : ℕ) (shot : Shot) (to : List Draw) → IsTrue (is_shot tick shot) →
    shot.to ≡ Some to → IsTrue (are_paintable tick to)
to_paintable tick shot to valid is =
    let P : Option (List Draw) → Type 0 = λ o. IsTrue (are_paintable_or_none tick o) in
    subst P is (shot_parts tick shot valid).to
