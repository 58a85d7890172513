-- The shot of a studio can be painted, and paints its picture.
use Rattle.std.proofs.Common.{◌≡◌, ℕ, zero, suc, ◌+◌, ◌<◌, ◌≤◌, Bool, true, false}
use Rattle.std.proofs.Common.{List, [], ◌∷◌, ◌++◌, drop, flat_map, get_or, length, IsTrue, is_some}
use Rattle.std.proofs.Common.{Option, Some, None, option_to_list, refl, sym, ap, ◌∙◌, subst, arith}
use Rattle.std.proofs.Common.{IfOk, Result, Ok, Err, ◌==◌, eqb-true, inl, inr, append-nil, append_assoc, add-one}
use Rattle.std.proofs.Math.Seq.{drop-cons}
use Rattle.std.specs.Prelude.{nat_le, slice_index_or}
use Rattle.std.specs.Option.{option_map_or}
use Rattle.std.specs.List.{list_all, list_any, range_with_len}
use Rattle.std.proofs.lemmas.Bool.{lt-ltb}
use Rattle.std.proofs.lemmas.List.Folds.{list_any-append}
use Rattle.mix_model.specs.declared.row.Row.{Row}
use Rattle.mix_model.specs.declared.draw.Draw.{Draw}
use Rattle.mix_model.specs.declared.draw.Shot.{Shot}
use Rattle.mix_model.specs.declared.picture.Picture.{Picture}
use Rattle.mix_model.specs.Blending.{faded_colour}
use Rattle.mix_model.specs.Colours.{Colour, bytes_of, black}
use Rattle.mix_model.specs.Drawing.{roots_over}
use Rattle.mix_model.specs.Lookups.{row_of, row_passes, has_row, registry, named_by}
use Rattle.mix_model.specs.Pictures.{filled, side_roots, stage_at, colour_in, picture_at}
use Rattle.mix_model.specs.Pictures.{program_colour}
use Rattle.mix_model.specs.Plans.{is_draw, are_paintable, are_paintable_or_none, is_shot}
use Rattle.mix_model.specs.Plans.{base_colour, draws_over, painted, shot_colour}
use Rattle.mix_model.specs.Program.{channel_of, is_fading, weights_of}
use Rattle.mix_model.specs.Rows.{is_scene, is_group, is_input}
use Rattle.mix_model.specs.Sets.{has}
use Rattle.mix_model.specs.Shape.{GraphShape, is_child, is_side_channel}
use Rattle.mix_model.specs.State.{GraphState, StudioState, Channel, Shown, Rest, Fade}
use Rattle.mix_model.specs.Voices.{ends_of}
use Rattle.mix_model.specs.WholeShape.{StudioShape}
use Rattle.mix_plan.specs.Laws.{IsDrawing, has_since_of}
use Rattle.mix_model.proofs.DyingLemmas.{member_passes}
use Rattle.mix_model.proofs.SetLemmas.{and_both, and_first, and_second, or_cases}
use Rattle.mix_studio.specs.Shots.{Draws, DrawsEnd, Shows}
use Rattle.mix_studio.specs.Studios.{StudioModel}
use Rattle.mix_studio.proofs.SceneLemmas.{program_listed}

-- ---- what channels name are rows

passed_is_row : (test : Row → Bool) (o : Option Row) → option_map_or test o false ≡ true →
    is_some o ≡ true
passed_is_row test None passed = cc
passed_is_row test (Some r) passed = refl

module _ (g : GraphState) (shape : GraphShape g) where
  scene_row : (x : ℕ) → has x g.scenes ≡ true → has_row g.rows x ≡ true
  scene_row x listed = passed_is_row (λ r. is_scene r.kind) (row_of g x)
      (member_passes (row_passes g (λ r. is_scene r.kind)) x g.scenes listed shape.parts.registry.scenes_scenes)

  input_row : (x : ℕ) → has x g.inputs ≡ true → has_row g.rows x ≡ true
  input_row x listed = passed_is_row (λ r. is_input r.kind) (row_of g x)
      (member_passes (row_passes g (λ r. is_input r.kind)) x g.inputs listed shape.parts.registry.inputs_inputs)

  listed_row : (x : ℕ) → has x (registry g) ≡ true → has_row g.rows x ≡ true
  listed_row x listed = elim (or_cases (has x g.scenes) (has x g.inputs)
      (sym (list_any-append (λ y. y == x) g.scenes g.inputs) ∙ listed)) [
        | inl scene ↦ scene_row x scene
        | inr input ↦ input_row x input
      ]

  child_row : (x : ℕ) → is_child g x ≡ true → has_row g.rows x ≡ true
  child_row x child = elim (or_cases (has x (registry g)) (row_passes g (λ r. is_group r.kind) x)
      child) [
        | inl listed ↦ listed_row x listed
        | inr group ↦ passed_is_row (λ r. is_group r.kind) (row_of g x) group
      ]

  children_rows : (xs : List ℕ) → list_all (is_child g) xs ≡ true →
      list_all (has_row g.rows) xs ≡ true
  children_rows [] all = refl
  children_rows (x ∷ xs) all = and_both _ _ (child_row x (and_first _ _ all))
      (children_rows xs (and_second _ _ all))

  scenes_rows : (xs : List ℕ) → list_all (λ x. has x g.scenes) xs ≡ true →
      list_all (has_row g.rows) xs ≡ true
  scenes_rows [] all = refl
  scenes_rows (x ∷ xs) all = and_both _ _ (scene_row x (and_first _ _ all))
      (scenes_rows xs (and_second _ _ all))

  all_append : (xs ys : List ℕ) → list_all (has_row g.rows) xs ≡ true →
      list_all (has_row g.rows) ys ≡ true → list_all (has_row g.rows) (xs ++ ys) ≡ true
  all_append [] ys all more = more
  all_append (x ∷ xs) ys all more = and_both _ _ (and_first _ _ all)
      (all_append xs ys (and_second _ _ all) more)

  channels_rows : (cs : List Channel) → list_all (is_side_channel g) cs ≡ true →
      list_all (has_row g.rows) (flat_map named_by cs) ≡ true
  channels_rows [] all = refl
  channels_rows (c ∷ cs) all = all_append (named_by c) (flat_map named_by cs)
      (children_rows (named_by c) (and_first _ _ (and_first _ _ all)))
      (channels_rows cs (and_second _ _ all))

  -- those beside channel 0
  pub side_rows : (roots : List ℕ) → roots ≡ side_roots g →
      IsTrue (list_all (has_row g.rows) roots)
  side_rows roots is = ap (list_all (has_row g.rows)) is ∙ channels_rows (drop 1 g.channels)
      shape.parts.beside.channels.side_channels

-- and the ends of the program
first_row : (rows : List Row) (shown : Shown) →
    list_all (has_row rows) (named_by (channel_of shown)) ≡ true →
    list_all (has_row rows) ((ends_of shown).0 ∷ []) ≡ true
first_row rows (Rest x) all = all
first_row rows (Fade a b t n) all = and_both _ _ (and_first _ _ all) refl

second_row : (rows : List Row) (shown : Shown) →
    list_all (has_row rows) (named_by (channel_of shown)) ≡ true →
    list_all (has_row rows) (option_to_list (ends_of shown).1) ≡ true
second_row rows (Rest x) all = refl
second_row rows (Fade a b t n) all = and_second _ _ all

module _ (s : StudioState) (shape : StudioShape s) (ends : ℕ × Option ℕ)
    (are : ends ≡ ends_of s.program.shown) where
  named_rows : list_all (has_row s.graph.rows) (named_by (channel_of s.program.shown)) ≡ true
  named_rows = scenes_rows s.graph shape.sources (named_by (channel_of s.program.shown))
      (program_listed s shape)

  pub from_row : IsTrue (list_all (has_row s.graph.rows) (ends.0 ∷ []))
  from_row = ap (λ (e : ℕ × Option ℕ). list_all (has_row s.graph.rows) (e.0 ∷ [])) are
      ∙ first_row s.graph.rows s.program.shown named_rows

  pub to_row : IsTrue (list_all (has_row s.graph.rows) (option_to_list ends.1))
  to_row = ap (λ (e : ℕ × Option ℕ). list_all (has_row s.graph.rows) (option_to_list e.1)) are
      ∙ second_row s.graph.rows s.program.shown named_rows

-- ---- what is planned can be painted

since_begun : (clock : ℕ) (rows : List Row) (n : ℕ) → list_any (λ r. r.since == n) rows ≡ true →
    list_all (λ r. nat_le r.since clock) rows ≡ true → nat_le n clock ≡ true
since_begun clock [] n some all = cc
since_begun clock (r ∷ rows) n some all = elim (or_cases (r.since == n)
    (list_any (λ s. s.since == n) rows) some) [
      | inl here ↦ subst (λ k. nat_le k clock ≡ true) (eqb-true r.since n here)
          (and_first _ _ all)
      | inr there ↦ since_begun clock rows n there (and_second _ _ all)
    ]

module _ (s : StudioState) (shape : StudioShape s) where
  paintable_by : (draws : List Draw) → list_all is_draw draws ≡ true →
      list_all (has_since_of s.graph.rows) draws ≡ true →
      are_paintable s.graph.clock draws ≡ true
  paintable_by [] valid since = refl
  paintable_by (d ∷ draws) valid since = and_both _ _
      (and_both _ _ (and_first _ _ valid)
      (since_begun s.graph.clock s.graph.rows d.since (and_first _ _ since)
      shape.sources.since_past))
      (paintable_by draws (and_second _ _ valid) (and_second _ _ since))

  draws_paintable : (roots : List ℕ) (draws : List Draw) → Draws s roots draws →
      are_paintable s.graph.clock draws ≡ true
  draws_paintable roots draws are = paintable_by draws are.valid are.since

  end_paintable : (end : Option ℕ) (draws : Option (List Draw)) → DrawsEnd s end draws →
      are_paintable_or_none s.graph.clock draws ≡ true
  end_paintable None draws are = ap (are_paintable_or_none s.graph.clock) are
  end_paintable (Some x) None are = absurd are
  end_paintable (Some x) (Some draws) are = draws_paintable (x ∷ []) draws are

-- ---- pictures are one where their pixels are

flat_same : (f h : ℕ → List ℕ) (low n : ℕ) → ((k : ℕ) → k < low + n → f k ≡ h k) →
    flat_map f (range_with_len low n) ≡ flat_map h (range_with_len low n)
flat_same f h low zero same = refl
flat_same f h low (suc n) same =
    ap (λ xs. xs ++ flat_map f (range_with_len (low + 1) n)) (same low (omega arith))
    ∙ ap (λ ys. h low ++ ys)
    (flat_same f h (low + 1) n (λ k below. same k (omega (arith, below))))

filled_same : (canvas : ℕ × ℕ) (f h : ℕ → ℕ → Colour) →
    ((x y : ℕ) → x < canvas.0 → y < canvas.1 → f x y ≡ h x y) → filled canvas f ≡ filled canvas h
filled_same canvas f h same =
    let of : List ℕ → Picture = λ bytes. record {
      width = canvas.0;
      height = canvas.1;
      rgba = bytes;
    } in
    ap of (flat_same (λ y. flat_map (λ x. bytes_of (f x y)) (range_with_len 0 canvas.0))
    (λ y. flat_map (λ x. bytes_of (h x y)) (range_with_len 0 canvas.0)) 0 canvas.1
    (λ y low. flat_same (λ x. bytes_of (f x y)) (λ x. bytes_of (h x y)) 0 canvas.0
    (λ x left. ap bytes_of (same x y (omega (arith, left)) (omega (arith, low))))))

-- ---- the shot

module _ (s : StudioState) (shot : Shot) (tick : ℕ) where
  -- its base is the program: one list at rest, and in a fade two, at t of n
  end_same : (a b t n x y : ℕ) (to : Option (List Draw)) → shot.t ≡ t → shot.n ≡ n →
      Draws s (a ∷ []) shot.from → DrawsEnd s (Some b) to → x < s.canvas.0 → y < s.canvas.1 →
      base_colour shot tick to x y ≡ program_colour (stage_at s tick) (Fade a b t n) x y
  end_same a b t n x y None of many first second left low = absurd second
  end_same a b t n x y (Some draws) of many first second left low =
      ap (λ k. faded_colour k shot.n (draws_over tick x y black shot.from)
      (draws_over tick x y black draws)) of
      ∙ ap (λ k. faded_colour t k (draws_over tick x y black shot.from)
      (draws_over tick x y black draws)) many
      ∙ ap (λ c. faded_colour t n c (draws_over tick x y black draws))
      (first.drawn tick x y black left low)
      ∙ ap (faded_colour t n (roots_over (stage_at s tick) x y black (a ∷ [])))
      (second.drawn tick x y black left low)

  base_same : (shown : Shown) → (shot.t, shot.n) ≡ weights_of shown →
      Draws s ((ends_of shown).0 ∷ []) shot.from → DrawsEnd s (ends_of shown).1 shot.to →
      (x y : ℕ) → x < s.canvas.0 → y < s.canvas.1 →
      base_colour shot tick shot.to x y ≡ program_colour (stage_at s tick) shown x y
  base_same (Rest a) weights first second x y left low =
      ap (λ to. base_colour shot tick to x y) second ∙ first.drawn tick x y black left low
  base_same (Fade a b t n) weights first second x y left low = end_same a b t n x y shot.to
      (ap (λ (w : ℕ × ℕ). w.0) weights) (ap (λ (w : ℕ × ℕ). w.1) weights) first second left low

  some_end : (shown : Shown) (to : Option (List Draw)) → DrawsEnd s (ends_of shown).1 to →
      is_some to ≡ is_fading shown
  some_end (Rest a) to second = ap is_some second
  some_end (Fade a b t n) None second = absurd second
  some_end (Fade a b t n) (Some draws) second = refl

  module _ (weights : (shot.t, shot.n) ≡ weights_of s.program.shown)
      (first : Draws s ((ends_of s.program.shown).0 ∷ []) shot.from)
      (second : DrawsEnd s (ends_of s.program.shown).1 shot.to)
      (sides : Draws s (side_roots s.graph) shot.over) where
    pixel_same : (x y : ℕ) → x < s.canvas.0 → y < s.canvas.1 →
        shot_colour shot tick x y ≡ colour_in s tick x y
    pixel_same x y left low =
        sides.drawn tick x y (base_colour shot tick shot.to x y) left low
        ∙ ap (λ c. roots_over (stage_at s tick) x y c (side_roots s.graph))
        (base_same s.program.shown weights first second x y left low)

    picture_same : painted shot tick s.canvas ≡ picture_at s tick
    unfolding painted picture_at
    picture_same =
        filled_same s.canvas (shot_colour shot tick) (colour_in s tick) pixel_same

    shot_shows : StudioShape s → shot.t < shot.n → tick ≡ s.graph.clock → Shows s tick shot
    unfolding is_shot
    shot_shows shape running now = record {
      paintable = subst (λ k. is_shot k shot ≡ true) (sym now) (and_both _ _ (and_both _ _
          (and_both _ _ (lt-ltb shot.t shot.n running)
          (draws_paintable s shape ((ends_of s.program.shown).0 ∷ []) shot.from first))
          (end_paintable s shape (ends_of s.program.shown).1 shot.to second))
          (draws_paintable s shape (side_roots s.graph) shot.over sides));
      picture = picture_same;
      scenes = some_end s.program.shown shot.to second;
      weights = weights;
    }

-- a shot of the draws that were planned
pub planned_shows : (s : StudioState) (shot : Shot) (ends : ℕ × Option ℕ) (roots : List ℕ) →
    StudioShape s → ends ≡ ends_of s.program.shown →
    (shot.t, shot.n) ≡ weights_of s.program.shown → shot.t < shot.n →
    roots ≡ side_roots s.graph → Draws s (ends.0 ∷ []) shot.from → DrawsEnd s ends.1 shot.to →
    Draws s roots shot.over → Shows s s.graph.clock shot
planned_shows s shot ends roots shape are weights running named first second sides =
    shot_shows s shot s.graph.clock weights
    (subst (λ (e : ℕ × Option ℕ). Draws s (e.0 ∷ []) shot.from) are first)
    (subst (λ (e : ℕ × Option ℕ). DrawsEnd s e.1 shot.to) are second)
    (subst (λ xs. Draws s xs shot.over) named sides) shape running refl

-- what is planned are such draws
pub plan_draws : {E : Type 0} (v m : StudioModel) (roots : List ℕ) (r : Result (List Draw) E) →
    v ≡ m → IfOk r (λ d. IsDrawing v.present.graph.rows v.present.canvas roots d) →
    IfOk r (λ d. IsTrue (list_all is_draw d)) →
    IfOk r (λ d. IsTrue (list_all (has_since_of v.present.graph.rows) d)) →
    IfOk r (λ d. Draws m.present roots d)
plan_draws v m roots (Ok draws) view drawn valid since =
    subst (λ (n : StudioModel). Draws n.present roots draws) view
    (record { drawn = drawn; valid = valid; since = since })
plan_draws v m roots (Err fault) view drawn valid since = tt

-- of roots that are these ones
pub draws_of : {E : Type 0} (s : StudioState) (r : Result (List Draw) E) (roots same : List ℕ) →
    roots ≡ same → IfOk r (λ d. Draws s roots d) → IfOk r (λ d. Draws s same d)
draws_of s r roots same is draws = subst (λ xs. IfOk r (λ d. Draws s xs d)) is draws

-- ---- the channels beside channel 0

pub sides_begin : (g : GraphState) (roots : List ℕ) → roots ≡ [] →
    roots ++ flat_map named_by (drop 1 g.channels) ≡ side_roots g
sides_begin g roots none = ap (λ xs. xs ++ flat_map named_by (drop 1 g.channels)) none

module _ (h : GraphState) (shape : GraphShape h) where
  many : length h.channels ≡ 64
  many = eqb-true (length h.channels) 64 shape.parts.beside.channels.channel_count

  -- with what one channel more names
  pub sides_more : (n : ℕ) → n < 64 → (before after : List ℕ) (channel : Channel) →
      channel ≡ slice_index_or h.channels n channel → after ≡ before ++ named_by channel →
      before ++ flat_map named_by (drop n h.channels) ≡ side_roots h →
      after ++ flat_map named_by (drop (n + 1) h.channels) ≡ side_roots h
  sides_more n below before after channel named pushed so_far =
      let there : drop n h.channels ≡ get_or h.channels n channel ∷ drop (suc n) h.channels =
      drop-cons h.channels n channel (omega (arith, many, below)) in
      ap (λ xs. xs ++ flat_map named_by (drop (n + 1) h.channels)) pushed
      ∙ append_assoc before (named_by channel) (flat_map named_by (drop (n + 1) h.channels))
      ∙ ap (λ k. before ++ (named_by channel ++ flat_map named_by (drop k h.channels))) (add-one n)
      ∙ ap (λ c. before ++ (named_by c ++ flat_map named_by (drop (suc n) h.channels))) named
      ∙ ap (λ cs. before ++ flat_map named_by cs) (sym there)
      ∙ so_far

  dropped : (k : ℕ) (xs : List Channel) → length xs ≤ k → drop k xs ≡ []
  dropped zero [] few = refl
  dropped (suc k) [] few = refl
  dropped zero (x ∷ xs) few = absurd (omega (arith, few))
  dropped (suc k) (x ∷ xs) few = dropped k xs (omega (arith, few))

  -- and where none is left
  pub sides_end : (n : ℕ) → 64 ≤ n → (roots : List ℕ) →
      roots ++ flat_map named_by (drop n h.channels) ≡ side_roots h → roots ≡ side_roots h
  sides_end n past roots so_far =
      sym (append-nil roots)
      ∙ ap (λ cs. roots ++ flat_map named_by cs)
      (sym (dropped n h.channels (omega (arith, many, past))))
      ∙ so_far
