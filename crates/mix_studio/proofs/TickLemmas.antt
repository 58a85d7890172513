-- A picture that is taken.
use Rattle.std.proofs.Common.{◌≡◌, ◌∙◌, ℕ, ◌+◌, ◌<◌, ◌≤◌, ◌==◌, Bool, true, false, not, nat_lt}
use Rattle.std.proofs.Common.{List, [], ◌∷◌, IsTrue, refl, sym, ap, subst, arith, eqb-true}
use Rattle.std.specs.List.{list_all, list_any}
use Rattle.std.proofs.lemmas.Bool.{ltb-true}
use Rattle.mix_model.specs.Edits.{channel_set, clock_set, frame_held}
use Rattle.mix_model.specs.Marks.{GraphModel, Mark, edited, settled_by, was_active}
use Rattle.mix_model.specs.Sets.{agree}
use Rattle.mix_model.specs.Shape.{GraphShape}
use Rattle.mix_model.specs.State.{Channel, Frame, GraphState}
use Rattle.mix_model.specs.Walks.{is_active}
use Rattle.mix_model.specs.WholeShape.{StudioShape}
use Rattle.mix_model.proofs.BlindLemmas.{all_rows_same}
use Rattle.mix_model.proofs.SetLemmas.{and_first, and_second}
use Rattle.mix_studio.specs.Studios.{StudioModel, graph_in}
use Rattle.mix_studio.proofs.HeldLemmas.{clock_kills_none, frame_active, frame_kills_none}
use Rattle.mix_studio.proofs.TwiceLemmas.{active_same, blind_to_numbers, channel_passes}
use Rattle.mix_studio.proofs.TwiceLemmas.{clock_passes, number_in, numbered, renumbered}
use Rattle.mix_studio.proofs.TwiceLemmas.{settled_alone, settled_once}

-- no frame in flight has the clock's number
pub fresh_number : (n : ℕ) (frames : List Frame) → list_all (λ f. nat_lt f.number n) frames ≡ true →
    IsTrue (not (list_any (λ f. f.number == n) frames))
fresh_number n [] past = refl
fresh_number n (f ∷ frames) past =
    let below : f.number < n = ltb-true f.number n (and_first _ _ past) in
    rw (other (f.number == n) refl below) (fresh_number n frames (and_second _ _ past))
  where
    other : (b : Bool) → (f.number == n) ≡ b → f.number < n → (f.number == n) ≡ false
    other true is later = let same : f.number ≡ n = eqb-true f.number n is in
        absurd (omega (arith, same, later))
    other false is later = is

module _ (marks : List Mark) (g : GraphState) (shape : GraphShape g) (n : ℕ) where
  -- a frame that is held only sets numbers
  held_is : settled_by marks (frame_held n g)
      ≡ renumbered (number_in marks (frame_held n g)) (frame_held n g)
  held_is = settled_alone marks (frame_held n g) (frame_kills_none n g shape)

  frame_rows_active : (f : ℕ → ℕ) →
      list_all (λ r. agree (was_active marks r.serial) (is_active g r.serial)) g.rows ≡ true →
      list_all (λ r. agree (was_active marks r.serial)
      (is_active (renumbered f (frame_held n g)) r.serial)) (renumbered f (frame_held n g)).rows
      ≡ true
  unfolding frame_held
  frame_rows_active f settled = all_rows_same (numbered f) (blind_to_numbers f)
      (λ r. agree (was_active marks r.serial)
      (is_active (renumbered f (frame_held n g)) r.serial))
      (λ r. agree (was_active marks r.serial) (is_active g r.serial))
      (λ r. ap (agree (was_active marks r.serial))
      (active_same f (frame_held n g) r.serial ∙ frame_active n g r.serial)) g.rows
      ∙ settled

  -- nothing becomes active or inactive by it
  pub still_settled :
      list_all (λ r. agree (was_active marks r.serial) (is_active g r.serial)) g.rows ≡ true →
      IsTrue (list_all (λ r. agree (was_active marks r.serial)
      (is_active (settled_by marks (frame_held n g)) r.serial))
      (settled_by marks (frame_held n g)).rows)
  still_settled settled = subst (λ (h : GraphState). list_all (λ r.
      agree (was_active marks r.serial) (is_active h r.serial)) h.rows ≡ true) (sym held_is)
      (frame_rows_active (number_in marks (frame_held n g)) settled)

  -- that it is settled before the clock rises and channel 0 is set makes no difference
  pub ticked_once : (clock : ℕ) (c : Channel) →
      settled_by marks (channel_set 0 c (settled_by marks
      (clock_set clock (settled_by marks (frame_held n g)))))
      ≡ settled_by marks (channel_set 0 c (clock_set clock (frame_held n g)))
  ticked_once clock c =
      ap (λ h. settled_by marks (channel_set 0 c h)) (settled_once marks (clock_set clock)
      (frame_held n g) (frame_kills_none n g shape) (clock_passes clock))
      ∙ settled_once marks (channel_set 0 c) (clock_set clock (frame_held n g))
      (clock_kills_none n clock g shape) (channel_passes 0 c)

pub held_clock : (marks : List Mark) (n : ℕ) (g : GraphState) →
    (settled_by marks (frame_held n g)).clock ≡ g.clock
unfolding settled_by frame_held
held_clock marks n g = refl

pub clock_scenes : (marks : List Mark) (n clock : ℕ) (g : GraphState) →
    (settled_by marks (clock_set clock (settled_by marks (frame_held n g)))).scenes ≡ g.scenes
unfolding settled_by frame_held clock_set
clock_scenes marks n clock g = refl

-- ---- the conditions of the calls, at the parts in hand

module _ (v m : StudioModel) (view : v ≡ m) (shape : StudioShape m.present) (n : ℕ)
    (now : n ≡ v.present.graph.clock) where
  tick_shape : StudioShape v.present
  tick_shape = subst (λ (k : StudioModel). StudioShape k.present) (sym view) shape

  pub tick_fresh : IsTrue (not (list_any (λ f. f.number == n) v.present.graph.frames))
  tick_fresh = subst (λ k. not (list_any (λ f. f.number == k) v.present.graph.frames) ≡ true)
      (sym now) (fresh_number v.present.graph.clock v.present.graph.frames tick_shape.frames_past)

  pub tick_rises : (h : GraphModel) → h ≡ edited (frame_held n) (graph_in v) →
      h.present.clock ≤ n + 1
  unfolding edited
  tick_rises h is =
      let clock : h.present.clock ≡ v.present.graph.clock =
      ap (λ (k : GraphModel). k.present.clock) is ∙ held_clock v.begun n v.present.graph in
      omega (arith, clock, now)

  pub tick_settled : (h : GraphModel) → h ≡ edited (frame_held n) (graph_in v) →
      list_all (λ r. agree (was_active m.begun r.serial)
      (is_active m.present.graph r.serial)) m.present.graph.rows ≡ true →
      IsTrue (list_all (λ r. agree (was_active h.begun r.serial)
      (is_active h.present r.serial)) h.present.rows)
  unfolding edited
  tick_settled h is settled = subst (λ (k : GraphModel). list_all (λ r.
      agree (was_active k.begun r.serial) (is_active k.present r.serial)) k.present.rows ≡ true)
      (sym is) (still_settled v.begun v.present.graph tick_shape.sources n
      (subst (λ (k : StudioModel). list_all (λ r. agree (was_active k.begun r.serial)
      (is_active k.present.graph r.serial)) k.present.graph.rows ≡ true) (sym view) settled))

  -- the sources once the clock rises
  pub clocked_begun : (h k : GraphModel) → h ≡ edited (frame_held n) (graph_in v) →
      k ≡ edited (clock_set (n + 1)) h → k.begun ≡ v.begun
  unfolding edited
  clocked_begun h k held is =
      ap (λ (g : GraphModel). g.begun) (is ∙ ap (edited (clock_set (n + 1))) held)

  pub clocked_present : (h k : GraphModel) → h ≡ edited (frame_held n) (graph_in v) →
      k ≡ edited (clock_set (n + 1)) h →
      k.present ≡ settled_by v.begun (clock_set (v.present.graph.clock + 1)
      (settled_by v.begun (frame_held v.present.graph.clock v.present.graph)))
  unfolding edited
  clocked_present h k held is =
      ap (λ (g : GraphModel). g.present) (is ∙ ap (edited (clock_set (n + 1))) held)
      ∙ ap (λ j. settled_by v.begun (clock_set (j + 1)
      (settled_by v.begun (frame_held j v.present.graph)))) now

  pub clocked_scenes : (h k : GraphModel) → h ≡ edited (frame_held n) (graph_in v) →
      k ≡ edited (clock_set (n + 1)) h → k.present.scenes ≡ v.present.graph.scenes
  clocked_scenes h k held is =
      ap (λ (g : GraphState). g.scenes) (clocked_present h k held is)
      ∙ clock_scenes v.begun v.present.graph.clock (v.present.graph.clock + 1) v.present.graph
