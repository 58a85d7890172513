-- A fade, frame by frame.
use Rattle.std.proofs.Common.{◌≡◌, ◌<◌, ◌≤◌, ◌+◌, ◌-◌, ◌*◌, ◌&&◌, ◌↔◌, ℕ, zero, suc, Bool, true}
use Rattle.std.proofs.Common.{false, not, IsTrue, if◌then◌else◌, refl, ap, ◌∙◌, arith}
use Rattle.std.proofs.Common.{add-one, inl, inr}
use Rattle.std.proofs.lemmas.Bool.{cases_lt, lt-ltb, le-ltb}
use Rattle.std.proofs.lemmas.Bool.Decides.{nat_tests}
use Rattle.std.proofs.lemmas.Nat.{mul-le, le-div}
use Rattle.mix_base.specs.declared.rate.Rate.{Rate}
use Rattle.mix_base.specs.Rates.{is_rate, frames_of}
use Rattle.mix_model.specs.State.{ProgramState, Shown, Rest, Fade}
use Rattle.mix_model.specs.Program.{advance_program, is_fading, shown_after}
use Rattle.mix_model.specs.Values.{is_duration}
use Rattle.mix_transition.specs.Laws.{after_frames}

-- a duration takes one frame at least
pub some_frames : (ms : ℕ) (rate : Rate) → IsTrue (is_duration ms) → IsTrue (is_rate rate) →
    0 < frames_of ms rate
some_frames ms rate allowed good =
    let long : 1 ≤ ms = grind (arith, nat_tests) in
    let divides : 1 ≤ rate.den = grind (arith, nat_tests) in
    let runs : 1 ≤ rate.num = grind (arith, nat_tests) in
    let begun : 1 ≤ ms * rate.num = mul-le 1 1 ms rate.num long runs in
    let least : 1 ≤ frames_of ms rate
    = le-div 1 (ms * rate.num + (1000 * rate.den - 1)) (1000 * rate.den) (omega arith) (omega arith)
    in omega arith

-- a frame more
shown_next : (p : ProgramState) → (advance_program p).program.shown ≡ shown_after p.shown
unfolding advance_program
shown_next p = refl

told_next : (p : ProgramState) → (advance_program p).change.ended
    ≡ (is_fading p.shown && not (is_fading (shown_after p.shown)))
unfolding advance_program
told_next p = refl

-- what a fade shows a frame later
abbrev step : ℕ → ℕ → ℕ → ℕ → Bool → Shown
step a b t n goes_on = if goes_on then Fade a b (t + 1) n else Rest b

-- whether a fade ended there
abbrev tells : ℕ → ℕ → ℕ → ℕ → Bool → Bool
tells a b t n goes_on = not (is_fading (step a b t n goes_on))

-- until its last frame a fade goes on by one with each frame
pub goes_on : (p : ProgramState) (a b n k : ℕ) → p.shown ≡ Fade a b 0 n → k < n →
    (after_frames k p).shown ≡ Fade a b k n
goes_on p a b n zero begun more = begun
goes_on p a b n (suc k) begun more =
    let before : k < n = omega arith in
    let next : k + 1 < n = omega arith in
    shown_next (after_frames k p) ∙ ap shown_after (goes_on p a b n k begun before)
    ∙ ap (step a b k n) (lt-ltb (k + 1) n next) ∙ ap (λ t. Fade a b t n) (add-one k)

-- and from then on the program is at rest
pub comes_to_rest : (p : ProgramState) (a b n k : ℕ) → p.shown ≡ Fade a b 0 n → 0 < n → n ≤ k →
    (after_frames k p).shown ≡ Rest b
comes_to_rest p a b n zero begun some past = absurd (omega arith)
comes_to_rest p a b n (suc k) begun some past = elim (cases_lt k n) [
  | inl last ↦ let none : n ≤ k + 1 = omega arith in
      shown_next (after_frames k p) ∙ ap shown_after (goes_on p a b n k begun last)
      ∙ ap (step a b k n) (le-ltb (k + 1) n none)
  | inr rests ↦
      shown_next (after_frames k p) ∙ ap shown_after (comes_to_rest p a b n k begun some rests)
]

-- the last frame says that the fade ended, and no other one does
pub end_is_told_once : (p : ProgramState) (a b n k : ℕ) → p.shown ≡ Fade a b 0 n → 0 < n →
    IsTrue (advance_program (after_frames k p)).change.ended ↔ (k + 1 ≡ n)
end_is_told_once p a b n k begun some = elim (cases_lt (k + 1) n) [
  | inl more ↦
      let before : k < n = omega arith in
      let silent : (advance_program (after_frames k p)).change.ended ≡ false
      = told_next (after_frames k p)
      ∙ ap (λ s. is_fading s && not (is_fading (shown_after s))) (goes_on p a b n k begun before)
      ∙ ap (tells a b k n) (lt-ltb (k + 1) n more) in
      ((λ told. cc), (λ last. absurd (omega arith)))
  | inr none ↦ elim (cases_lt k n) [
    | inl last ↦
        let told : (advance_program (after_frames k p)).change.ended ≡ true
        = told_next (after_frames k p)
        ∙ ap (λ s. is_fading s && not (is_fading (shown_after s))) (goes_on p a b n k begun last)
        ∙ ap (tells a b k n) (le-ltb (k + 1) n none) in
        ((λ _. omega arith), (λ _. told))
    | inr rests ↦
        let silent : (advance_program (after_frames k p)).change.ended ≡ false
        = told_next (after_frames k p)
        ∙ ap (λ s. is_fading s && not (is_fading (shown_after s)))
        (comes_to_rest p a b n k begun some rests) in
        ((λ told. cc), (λ last. absurd (omega arith)))
  ]
]
