-- Setting the program, and forgetting a scene.
use Rattle.std.proofs.Common.{◌≡◌, ◌≢◌, ◌==◌, ◌&&◌, ◌||◌, ℕ, Bool, true, false, IsTrue, not}
use Rattle.std.proofs.Common.{cond, if◌then◌else◌, refl, sym, ap, ◌∙◌, arith}
use Rattle.std.proofs.lemmas.Bool.{cond_both, eq-eqb, eqb-true, ne_eqb, or_from, or_parts}
use Rattle.std.proofs.lemmas.Bool.Decides.{nat_tests}
use Rattle.mix_base.specs.declared.rate.Rate.{Rate}
use Rattle.mix_base.specs.Rates.{frames_of}
use Rattle.mix_model.specs.Sets.{has, is_distinct}
use Rattle.mix_model.specs.State.{ProgramState, Shown, Rest, Fade}
use Rattle.mix_model.specs.Lookups.{named_by}
use Rattle.mix_model.specs.Program.{Changed, channel_of, forget_scene, is_fading, same_program}
use Rattle.mix_model.specs.Program.{set_program, shown_without, target_of, towards}

-- what it does to set the program to another scene than its target
abbrev pub set_elsewhere : ProgramState → Rate → ℕ → Changed
set_elsewhere p rate y = record {
  program = record p { shown = towards p rate y };
  change = record { ended = is_fading p.shown; started = true; target = true };
}

-- whether the scene is the target decides what is done
abbrev pub set_by : ProgramState → Rate → ℕ → Bool → Changed
set_by p rate y here = if here then same_program p else set_elsewhere p rate y

pub set_is_by : (p : ProgramState) (rate : Rate) (y : ℕ) →
    set_program p rate y ≡ set_by p rate y (target_of p.shown == y)
unfolding set_program
set_is_by p rate y = refl

pub set_to_target : (p : ProgramState) (rate : Rate) (y : ℕ) → target_of p.shown ≡ y →
    set_program p rate y ≡ same_program p
set_to_target p rate y here =
    set_is_by p rate y ∙ ap (set_by p rate y) (eq-eqb (target_of p.shown) y here)

pub set_to_other : (p : ProgramState) (rate : Rate) (y : ℕ) → target_of p.shown ≢ y →
    set_program p rate y ≡ set_elsewhere p rate y
set_to_other p rate y other =
    set_is_by p rate y ∙ ap (set_by p rate y) (ne_eqb (target_of p.shown) y other)

-- what it goes to by a cut or by a fade
abbrev pub gone_by : ProgramState → Rate → ℕ → Bool → Shown
gone_by p rate y fades =
    if fades then Fade (target_of p.shown) y 0 (frames_of p.duration rate) else Rest y

-- a fade begins at the target of what was shown before
pub fade_begins : (p : ProgramState) (rate : Rate) (y : ℕ) → p.fades ≡ true →
    target_of p.shown ≢ y →
    (set_program p rate y).program.shown ≡ Fade (target_of p.shown) y 0 (frames_of p.duration rate)
fade_begins p rate y fades other =
    ap (λ c. c.program.shown) (set_to_other p rate y other) ∙ ap (gone_by p rate y) fades

pub cut_at_once : (p : ProgramState) (rate : Rate) (y : ℕ) → p.fades ≡ false →
    target_of p.shown ≢ y → (set_program p rate y).program.shown ≡ Rest y
cut_at_once p rate y cuts other =
    ap (λ c. c.program.shown) (set_to_other p rate y other) ∙ ap (gone_by p rate y) cuts

-- a scene that the program is set to is its target, whether it was before or not
pub set_is_target : (p : ProgramState) (rate : Rate) (y : ℕ) →
    target_of (set_program p rate y).program.shown ≡ y
set_is_target p rate y =
    ap (λ c. target_of c.program.shown) (set_is_by p rate y)
    ∙ cond_both (target_of p.shown == y) (same_program p) (set_elsewhere p rate y)
    (λ c. target_of c.program.shown ≡ y) (λ here. eqb-true (target_of p.shown) y here)
    (λ _. cond_both p.fades (Fade (target_of p.shown) y 0 (frames_of p.duration rate)) (Rest y)
    (λ s. target_of s ≡ y) (λ _. refl) (λ _. refl))

-- it isn't an end of what is shown
abbrev pub IsNoEnd : ℕ → Shown → Type 0
IsNoEnd y s = has y (named_by (channel_of s)) ≡ false

no_end_of_one : (x y : ℕ) → (x == y) ≡ false → IsNoEnd y (Rest x)
no_end_of_one x y other = or_from (x == y) false other refl

-- the two ends of a fade differ
ends_differ : (a b t n : ℕ) → IsTrue (is_distinct (named_by (channel_of (Fade a b t n)))) → b ≢ a
ends_differ a b t n distinct same = grind (arith, nat_tests)

-- what is shown without a scene hasn't it as an end
pub forgotten_shown : (s : Shown) (y other : ℕ) →
    IsTrue (is_distinct (named_by (channel_of s))) → other ≢ y →
    IsNoEnd y (shown_without y other s)
forgotten_shown (Rest x) y other distinct ne =
    cond_both (x == y) (Rest other) (Rest x) (IsNoEnd y)
    (λ _. no_end_of_one other y (ne_eqb other y ne)) (λ away. no_end_of_one x y away)
forgotten_shown (Fade a b t n) y other distinct ne =
    cond_both (a == y) (Rest b) (cond (b == y) (Rest a) (Fade a b t n)) (IsNoEnd y)
    (λ first. no_end_of_one b y (ne_eqb b y
    (λ second. ends_differ a b t n distinct (second ∙ sym (eqb-true a y first)))))
    (λ kept. cond_both (b == y) (Rest a) (Fade a b t n) (IsNoEnd y)
    (λ _. no_end_of_one a y kept)
    (λ away. or_from (a == y) ((b == y) || false) kept (or_from (b == y) false away refl)))

-- and without another scene it is the same
pub others_shown : (s : Shown) (y other : ℕ) → IsNoEnd y s → shown_without y other s ≡ s
others_shown (Rest x) y other away =
    ap (λ c. if c then Rest other else Rest x) (or_parts (x == y) false away).0
others_shown (Fade a b t n) y other away =
    let parts = or_parts (a == y) ((b == y) || false) away in
    ap (λ c. if c then Rest b else (if b == y then Rest a else Fade a b t n)) parts.0
    ∙ ap (λ c. if c then Rest a else Fade a b t n) (or_parts (b == y) false parts.1).0

-- what it does to forget a scene, by what is shown without it
abbrev forget_by : ProgramState → Shown → Changed
forget_by p after = record {
  program = record p { shown = after };
  change = record {
    ended = is_fading p.shown && not (is_fading after);
    started = false;
    target = not (target_of after == target_of p.shown);
  };
}

forget_is_by : (p : ProgramState) (y other : ℕ) →
    forget_scene p y other ≡ forget_by p (shown_without y other p.shown)
unfolding forget_scene
forget_is_by p y other = refl

-- where the same is shown, nothing is told
abbrev told_by : ProgramState → Bool → Bool → Changed
told_by p ended same = record {
  program = p;
  change = record { ended = ended; started = false; target = not same };
}

both_and_not : (b : Bool) → (b && not b) ≡ false
both_and_not true = refl
both_and_not false = refl

pub others_stay : (p : ProgramState) (y other : ℕ) → IsNoEnd y p.shown →
    forget_scene p y other ≡ same_program p
others_stay p y other away =
    forget_is_by p y other ∙ ap (forget_by p) (others_shown p.shown y other away)
    ∙ ap (λ ended. told_by p ended (target_of p.shown == target_of p.shown))
    (both_and_not (is_fading p.shown))
    ∙ ap (told_by p false) (eq-eqb (target_of p.shown) (target_of p.shown) refl)

pub forgotten_is_no_end : (p : ProgramState) (y other : ℕ) →
    IsTrue (is_distinct (named_by (channel_of p.shown))) → other ≢ y →
    IsNoEnd y (forget_scene p y other).program.shown
unfolding forget_scene
forgotten_is_no_end p y other distinct ne = forgotten_shown p.shown y other distinct ne
