-- When a shot is that of a studio.
use Rattle.std.specs.Prelude.{◌≡◌, ℕ, List, [], ◌∷◌, Option, Some, None, IsTrue, is_some}
use Rattle.std.specs.List.{list_all}
use Rattle.mix_model.specs.declared.draw.Draw.{Draw}
use Rattle.mix_model.specs.declared.draw.Shot.{Shot}
use Rattle.mix_model.specs.Pictures.{picture_at}
use Rattle.mix_model.specs.Plans.{is_draw, is_shot, painted}
use Rattle.mix_model.specs.Program.{is_fading, weights_of}
use Rattle.mix_model.specs.State.{StudioState}
use Rattle.mix_plan.specs.Laws.{IsDrawing, has_since_of}

-- at this tick the shot can be painted, and painting it gives the picture of the studio. In a fade it
-- has the draws of both scenes, at t of n
pub record Shows (s : StudioState) (tick : ℕ) (shot : Shot) : Type 0 where
  pub paintable : IsTrue (is_shot tick shot)
  pub picture : painted shot tick s.canvas ≡ picture_at s tick
  pub scenes : is_some shot.to ≡ is_fading s.program.shown
  pub weights : (shot.t, shot.n) ≡ weights_of s.program.shown

-- draws that can be painted, and are the drawing of these rows
pub record Draws (s : StudioState) (roots : List ℕ) (draws : List Draw) : Type 0 where
  pub drawn : IsDrawing s.graph.rows s.canvas roots draws
  pub valid : IsTrue (list_all is_draw draws)
  pub since : IsTrue (list_all (has_since_of s.graph.rows) draws)

-- the draws of a row, where there is one
abbrev pub DrawsEnd : StudioState → Option ℕ → Option (List Draw) → Type 0
DrawsEnd s None draws = draws ≡ None
DrawsEnd s (Some x) None = ⊥
DrawsEnd s (Some x) (Some draws) = Draws s (x ∷ []) draws
