-- How large a share is, and a sum of shares.
use Rattle.std.proofs.Common.{◌≡◌, ℕ, zero, suc, ◌<◌, ◌≤◌, ◌+◌, ◌*◌, ◌/◌, List, [], ◌∷◌, length}
use Rattle.std.proofs.Common.{take, refl, ap, arith, ◌∙◌, ℤ, pos, negsuc, neg_ℤ, ◌+ℤ◌, ◌*ℤ◌, fold}
use Rattle.std.proofs.Common.{Bool, true, false, cond, ◌&&◌, IsTrue, get_or}
use Rattle.std.specs.Prelude.{int_div, int_lt, nat_le, unsigned_abs}
use Rattle.std.specs.Int.{int_rem_euclid}
use Rattle.std.specs.List.{list_all}
use Rattle.std.proofs.lemmas.Bool.Decides.{nat_tests}
use Rattle.std.proofs.lemmas.Int.{ints, unsigned_abs-mul}
use Rattle.std.proofs.lemmas.List.Sums.{AllPass-from_list_all}
use Rattle.std.proofs.lemmas.Nat.{mul-le, div_below}
use Rattle.mix_model.specs.declared.settings.Settings.{Settings}
use Rattle.mix_model.specs.declared.settings.Settings.TheVariants.{Tone}
use Rattle.mix_model.specs.declared.voice.Voice.{Voice}
use Rattle.mix_model.specs.Kinds.{sample_of}
use Rattle.mix_model.specs.Sounds.{scaled, share, added, has_track}
use Rattle.mix_model.specs.Values.{are_valid, is_sound}
use Rattle.mix_model.specs.Voices.{is_voice}
use Rattle.mix_model.proofs.SetLemmas.{and_first, and_second}

at_most : (n m : ℕ) → nat_le n m ≡ true → n ≤ m
at_most n m h = grind (arith, nat_tests)

-- what holds of a voice that can be mixed
pub record Ranges (voice : Voice) : Type 0 where
  pub valid : IsTrue (are_valid voice.settings)
  pub volume : voice.sound.volume ≤ 20000
  pub weight : voice.w ≤ voice.n
  pub some : 0 < voice.n

pub ranges : (voice : Voice) → IsTrue (is_voice voice) → Ranges voice
unfolding is_voice is_sound
ranges voice ok =
    let settings : Bool = are_valid voice.settings in
    let weighted : (settings && is_sound voice.sound && nat_le 1 voice.n) ≡ true =
    and_first _ _ ok in
    let sounds : (settings && is_sound voice.sound) ≡ true = and_first _ _ weighted in
    let sound : is_sound voice.sound ≡ true = and_second settings _ sounds in
    let one : 1 ≤ voice.n = at_most 1 voice.n (and_second _ _ weighted) in
    record {
      valid = and_first _ _ sounds;
      volume = at_most voice.sound.volume 20000 (and_first _ _ (and_first _ _ sound));
      weight = at_most voice.w voice.n (and_second _ _ ok);
      some = one;
    }

-- one of the voices
pub voice_at : (voices : List Voice) (i : ℕ) (voice : Voice) → IsTrue (list_all is_voice voices) →
    i < length voices → voice ≡ get_or voices i voice → IsTrue (is_voice voice)
voice_at voices i voice all within is =
    ap is_voice is ∙ AllPass-from_list_all is_voice voices all i voice within

abs_neg : (m : ℕ) → unsigned_abs (neg_ℤ (pos m)) ≡ m
abs_neg zero = refl
abs_neg (suc m) = refl

abs_quotient : (z : ℤ) (d : ℕ) → unsigned_abs (int_div z (pos d)) ≡ unsigned_abs z / d
abs_quotient (pos a) d = refl
abs_quotient (negsuc a) d = abs_neg (suc a / d)

abs_add : (a b : ℤ) → unsigned_abs (a +ℤ b) ≤ unsigned_abs a + unsigned_abs b
abs_add a b = omega (arith, ints)

-- a sample at the greatest volume and a whole weight
pub scaled_small : (s : ℤ) (v w n : ℕ) → unsigned_abs s ≤ 32767 → v ≤ 20000 → w ≤ n → 0 < n →
    unsigned_abs (scaled s v w n) ≤ 655340
scaled_small s v w n loud volume weight some =
    let product : unsigned_abs s * (v * w) ≤ 32767 * (20000 * n) =
    mul-le (unsigned_abs s) (v * w) 32767 (20000 * n) loud (mul-le v w 20000 n volume weight) in
    let size : unsigned_abs (s *ℤ pos (v * w)) ≡ unsigned_abs s * (v * w) =
    unsigned_abs-mul s (pos (v * w)) in
    let quotient : unsigned_abs (scaled s v w n) ≡ unsigned_abs (s *ℤ pos (v * w)) / (1000 * n) =
    abs_quotient (s *ℤ pos (v * w)) (1000 * n) in
    let below : unsigned_abs (s *ℤ pos (v * w)) / (1000 * n) < 655341 =
    div_below (unsigned_abs (s *ℤ pos (v * w))) (1000 * n) 655341 (omega arith)
    (omega (arith, product, size)) in
    omega (arith, quotient, below)

-- a level, above zero or below
wave_small : (level : ℕ) (b : Bool) → level ≤ 32767 →
    unsigned_abs (cond b (pos level) (neg_ℤ (pos level))) ≤ 32767
wave_small level true small = small
wave_small level false small = omega (arith, abs_neg level)

pub sample_small : (settings : Settings) (place : ℤ) → IsTrue (are_valid settings) →
    unsigned_abs (sample_of settings place) ≤ 32767
unfolding are_valid
sample_small (Tone level half) place ok =
    wave_small level (int_lt (int_rem_euclid place (pos (2 * half))) (pos half))
    (at_most level 32767 (and_first _ _ ok))
sample_small _ place ok = omega arith

share_small : (place : ℤ) (voice : Voice) → IsTrue (is_voice voice) →
    unsigned_abs (share place voice) ≤ 655340
share_small place voice ok =
    let r : Ranges voice = ranges voice ok in
    scaled_small _ voice.sound.volume voice.w voice.n (sample_small voice.settings _ r.valid)
    r.volume r.weight r.some

part_small : (b : Bool) (z : ℤ) → unsigned_abs z ≤ 655340 →
    unsigned_abs (cond b z (pos 0)) ≤ 655340
part_small true z small = small
part_small false z small = omega arith

-- a sum of so many voices
pub sum_small : (track : ℕ) (place : ℤ) (i : ℕ) (voices : List Voice) (sum : ℤ) →
    IsTrue (list_all is_voice voices) →
    unsigned_abs (fold (added track place) sum (take i voices)) ≤ unsigned_abs sum + 655340 * i
sum_small track place zero voices sum all = omega arith
sum_small track place (suc i) [] sum all = omega arith
sum_small track place (suc i) (voice ∷ voices) sum all =
    let part : ℤ = cond (has_track voice.sound.tracks track) (share place voice) (pos 0) in
    let small : unsigned_abs part ≤ 655340 =
    part_small (has_track voice.sound.tracks track) (share place voice)
    (share_small place voice (and_first _ _ all)) in
    let more : unsigned_abs (sum +ℤ part) ≤ unsigned_abs sum + unsigned_abs part =
    abs_add sum part in
    let rest : IsTrue (list_all is_voice voices) = and_second (is_voice voice) _ all in
    let others : unsigned_abs (fold (added track place) (sum +ℤ part) (take i voices))
    ≤ unsigned_abs (sum +ℤ part) + 655340 * i =
    sum_small track place i voices (sum +ℤ part) rest in
    omega (arith, small, more, others)
