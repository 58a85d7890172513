-- Each change keeps the shape of the program.
use Rattle.std.proofs.Common.{◌≡◌, ◌≢◌, ◌==◌, ◌&&◌, ◌||◌, ◌+◌, ◌<◌, ℕ, Bool, true, false, IsTrue}
use Rattle.std.proofs.Common.{not, nat_lt, cond, [], ◌∷◌, refl, sym, ap, subst}
use Rattle.std.proofs.lemmas.Bool.{cond_both, eqb-false, lt-ltb, ne_eqb}
use Rattle.mix_base.specs.declared.rate.Rate.{Rate}
use Rattle.mix_base.specs.Rates.{is_rate, frames_of}
use Rattle.mix_model.specs.Sets.{is_distinct}
use Rattle.mix_model.specs.State.{ProgramState, Shown, Rest, Fade}
use Rattle.mix_model.specs.Lookups.{named_by}
use Rattle.mix_model.specs.Program.{Changed, advance_program, channel_of, choose_transition}
use Rattle.mix_model.specs.Program.{forget_scene, same_program, set_program, shown_after}
use Rattle.mix_model.specs.Program.{shown_without, target_of, towards}
use Rattle.mix_model.specs.Values.{is_duration}
use Rattle.mix_model.specs.WholeShape.{is_shown}
use Rattle.mix_transition.specs.Shape.{BusShape}
use Rattle.mix_transition.proofs.FadeLemmas.{some_frames}
use Rattle.mix_transition.proofs.SetLemmas.{set_elsewhere, set_is_by}

-- what a bus may show
abbrev IsAllowed : Shown → Type 0
IsAllowed s = IsTrue (is_shown s) × IsTrue (is_distinct (named_by (channel_of s)))

-- a scene at rest is allowed
rest_allowed : (x : ℕ) → IsAllowed (Rest x)
rest_allowed x = (refl, refl)

two_distinct : (a b : ℕ) → a ≢ b → is_distinct (a ∷ (b ∷ [])) ≡ true
two_distinct a b differ =
    ap (λ c. not (c || false) && true) (ne_eqb b a (λ same. differ (sym same)))

after_allowed : (s : Shown) → IsAllowed s → IsAllowed (shown_after s)
after_allowed (Rest x) ok = ok
after_allowed (Fade a b t n) ok =
    cond_both (nat_lt (t + 1) n) (Fade a b (t + 1) n) (Rest b) IsAllowed (λ more. (more, ok.1))
    (λ _. rest_allowed b)

without_allowed : (y other : ℕ) (s : Shown) → IsAllowed s → IsAllowed (shown_without y other s)
without_allowed y other (Rest x) ok =
    cond_both (x == y) (Rest other) (Rest x) IsAllowed (λ _. rest_allowed other) (λ _. ok)
without_allowed y other (Fade a b t n) ok =
    cond_both (a == y) (Rest b) (cond (b == y) (Rest a) (Fade a b t n)) IsAllowed
    (λ _. rest_allowed b)
    (λ _. cond_both (b == y) (Rest a) (Fade a b t n) IsAllowed (λ _. rest_allowed a) (λ _. ok))

towards_allowed : (p : ProgramState) (rate : Rate) (y : ℕ) → target_of p.shown ≢ y →
    0 < frames_of p.duration rate → IsAllowed (towards p rate y)
towards_allowed p rate y other some =
    cond_both p.fades (Fade (target_of p.shown) y 0 (frames_of p.duration rate)) (Rest y) IsAllowed
    (λ _. (lt-ltb 0 (frames_of p.duration rate) some, two_distinct (target_of p.shown) y other))
    (λ _. rest_allowed y)

pub setting_keeps_shape : (p : ProgramState) (rate : Rate) (y : ℕ) → BusShape p →
    IsTrue (is_rate rate) → BusShape (set_program p rate y).program
setting_keeps_shape p rate y shape good =
    let some = some_frames p.duration rate shape.duration good in
    let P : Changed → Type 0 = λ c. BusShape c.program in
    subst P (sym (set_is_by p rate y))
    (cond_both (target_of p.shown == y) (same_program p) (set_elsewhere p rate y) P (λ _. shape)
    (λ away. let ok = towards_allowed p rate y (eqb-false (target_of p.shown) y away) some in
    record { running = ok.0; ends = ok.1; duration = shape.duration }))

pub frames_keep_shape : (p : ProgramState) → BusShape p → BusShape (advance_program p).program
unfolding advance_program
frames_keep_shape p shape = let ok = after_allowed p.shown (shape.running, shape.ends) in
    record { running = ok.0; ends = ok.1; duration = shape.duration }

pub forgetting_keeps_shape : (p : ProgramState) (y other : ℕ) → BusShape p →
    BusShape (forget_scene p y other).program
unfolding forget_scene
forgetting_keeps_shape p y other shape =
    let ok = without_allowed y other p.shown (shape.running, shape.ends) in
    record { running = ok.0; ends = ok.1; duration = shape.duration }

pub choosing_keeps_shape : (p : ProgramState) (fades : Bool) (ms : ℕ) → BusShape p →
    IsTrue (is_duration ms) → BusShape (choose_transition fades ms p)
unfolding choose_transition
choosing_keeps_shape p fades ms shape allowed =
    record { running = shape.running; ends = shape.ends; duration = allowed }
