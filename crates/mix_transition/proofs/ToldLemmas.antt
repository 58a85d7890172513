-- The target that is told.
use Rattle.std.proofs.Common.{◌≡◌, ◌==◌, ◌+◌, ℕ, true, false, not, nat_lt, refl, sym, ap}
use Rattle.std.proofs.Common.{subst}
use Rattle.std.proofs.lemmas.Bool.{cond_both, eq-eqb, eqb-false, ne_eqb}
use Rattle.mix_base.specs.declared.rate.Rate.{Rate}
use Rattle.mix_base.specs.Rates.{frames_of}
use Rattle.mix_model.specs.State.{ProgramState, Shown, Rest, Fade}
use Rattle.mix_model.specs.Program.{advance_program, forget_scene, same_program, set_program}
use Rattle.mix_model.specs.Program.{shown_after, target_of}
use Rattle.mix_transition.specs.Laws.{TellsTarget}
use Rattle.mix_transition.proofs.SetLemmas.{set_elsewhere, set_is_by}

-- the same target is none that changed
same_target : (x y : ℕ) → x ≡ y → false ≡ not (x == y)
same_target x y same = sym (ap not (eq-eqb x y same))

-- and another one is
other_target : (p : ProgramState) (y : ℕ) → (target_of p.shown == y) ≡ false →
    true ≡ not (y == target_of p.shown)
other_target p y away = sym (ap not (ne_eqb y (target_of p.shown)
    (λ same. eqb-false (target_of p.shown) y away (sym same))))

pub setting_tells_target : (p : ProgramState) (rate : Rate) (y : ℕ) →
    TellsTarget p (set_program p rate y)
setting_tells_target p rate y =
    subst (TellsTarget p) (sym (set_is_by p rate y))
    (cond_both (target_of p.shown == y) (same_program p) (set_elsewhere p rate y) (TellsTarget p)
    (λ _. same_target (target_of p.shown) (target_of p.shown) refl)
    (λ away. cond_both p.fades (Fade (target_of p.shown) y 0 (frames_of p.duration rate)) (Rest y)
    (λ s. true ≡ not (target_of s == target_of p.shown)) (λ _. other_target p y away)
    (λ _. other_target p y away)))

-- a frame leaves the target
target_after : (s : Shown) → target_of (shown_after s) ≡ target_of s
target_after (Rest x) = refl
target_after (Fade a b t n) =
    cond_both (nat_lt (t + 1) n) (Fade a b (t + 1) n) (Rest b) (λ s. target_of s ≡ b) (λ _. refl)
    (λ _. refl)

pub frames_tell_target : (p : ProgramState) → TellsTarget p (advance_program p)
unfolding advance_program
frames_tell_target p =
    same_target (target_of (shown_after p.shown)) (target_of p.shown) (target_after p.shown)

pub forgetting_tells_target : (p : ProgramState) (y other : ℕ) →
    TellsTarget p (forget_scene p y other)
unfolding forget_scene
forgetting_tells_target p y other = refl
