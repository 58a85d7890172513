-- A block of frames is the block that is meant, and fits sixteen bits.
use Rattle.std.proofs.Common.{◌≡◌, ℕ, zero, suc, ◌<◌, ◌+◌, ◌*◌, ◌/◌, ◌%◌, ◌∙◌, sym, ap, arith}
use Rattle.std.proofs.Common.{List, length, get_or, ℤ, pos, negsuc, ◌≤ℤ◌, Bool, true, eq-eqb, subst}
use Rattle.std.specs.Prelude.{int_le}
use Rattle.std.specs.List.{All}
use Rattle.std.proofs.lemmas.Int.{ints, clamps}
use Rattle.std.proofs.lemmas.List.{get_or_default}
use Rattle.std.proofs.lemmas.List.Sums.{list_all-from_AllPass}
use Rattle.mix_model.specs.declared.voice.Voice.{Voice}
use Rattle.mix_model.specs.Sounds.{clamped, track_sample, mixed, is_block}
use Rattle.mix_model.specs.Values.{is_within}
use Rattle.mix_model.proofs.SetLemmas.{and_both}
use Rattle.mix_audio.specs.Frames.{HasFrame, left_of}
use Rattle.mix_audio.proofs.Stereo.{tracks_framed}

-- frames of what the voices say are the block of the voices
pub mixed_is : (voices : List Voice) (number : ℕ) (xs : List ℤ) → length xs ≡ 12288 →
    ((t i : ℕ) → t < 6 → i < 1024 →
    HasFrame xs t i (track_sample voices t (pos (1024 * number + i)))) →
    (mixed voices number).tracks ≡ xs
unfolding mixed
mixed_is voices number xs long has =
    let heard : ℕ → ℕ → ℤ = λ t i. track_sample voices t (pos (1024 * number + i)) in
    let counted : (t : ℕ) → t ≡ 0 + t = λ t. omega arith in
    sym (tracks_framed heard 1024 6 0 xs long
    (λ t i up below. (has t i up below).left ∙ ap (λ s. heard s i) (counted t))
    (λ t i up below. (has t i up below).right ∙ ap (λ s. heard s i) (counted t)))

-- what holds of what is heard in each frame holds of each sample
module _ (P : ℤ → Type 0) (heard : ℕ → ℕ → ℤ) (xs : List ℤ) (long : length xs ≡ 12288)
    (has : (t i : ℕ) → t < 6 → i < 1024 → HasFrame xs t i (heard t i))
    (holds : (t i : ℕ) → t < 6 → i < 1024 → P (heard t i)) where
  side_holds : (m side k : ℕ) → m < 6144 → k ≡ 2 * m + side → side < 2 → P (get_or xs k (pos 0))
  side_holds m zero k below at few =
      let place : k ≡ left_of (m / 1024) (m % 1024) = omega (arith, at) in
      let is : get_or xs k (pos 0) ≡ heard (m / 1024) (m % 1024) =
      ap (λ j. get_or xs j (pos 0)) place
      ∙ (has (m / 1024) (m % 1024) (omega arith) (omega arith)).left in
      subst P (sym is) (holds (m / 1024) (m % 1024) (omega arith) (omega arith))
  side_holds m (suc zero) k below at few =
      let place : k ≡ left_of (m / 1024) (m % 1024) + 1 = omega (arith, at) in
      let is : get_or xs k (pos 0) ≡ heard (m / 1024) (m % 1024) =
      ap (λ j. get_or xs j (pos 0)) place
      ∙ (has (m / 1024) (m % 1024) (omega arith) (omega arith)).right in
      subst P (sym is) (holds (m / 1024) (m % 1024) (omega arith) (omega arith))
  side_holds m (suc (suc side)) k below at few = absurd (omega (arith, few))

  pub each_sample : All P xs
  each_sample k d within = subst P (sym (get_or_default xs k d (pos 0) within))
      (side_holds (k / 2) (k % 2) k (omega (arith, within, long)) (omega arith) (omega arith))

-- what is held within sixteen bits fits them
le_true : (a b : ℤ) → a ≤ℤ b → int_le a b ≡ true
le_true a b h = grind (arith, ints)

clamped_within : (z : ℤ) → is_within (negsuc 32767) (pos 32767) (clamped z) ≡ true
clamped_within z =
    let low : negsuc 32767 ≤ℤ clamped z = omega (arith, ints, clamps) in
    let high : clamped z ≤ℤ pos 32767 = omega (arith, ints, clamps) in
    and_both _ _ (le_true (negsuc 32767) (clamped z) low) (le_true (clamped z) (pos 32767) high)

pub frames_fit : (sums : ℕ → ℕ → ℤ) (xs : List ℤ) → length xs ≡ 12288 →
    ((t i : ℕ) → t < 6 → i < 1024 → HasFrame xs t i (clamped (sums t i))) →
    is_block (record { tracks = xs }) ≡ true
frames_fit sums xs long has =
    let fits : ℤ → Bool = λ z. is_within (negsuc 32767) (pos 32767) z in
    and_both _ _ (eq-eqb (length xs) 12288 long) (list_all-from_AllPass fits xs
    (each_sample (λ z. fits z ≡ true) (λ t i. clamped (sums t i)) xs long has
    (λ t i up below. clamped_within (sums t i))))
