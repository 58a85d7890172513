-- A sample at a volume and a weight, in whole numbers of 64 bits.
use Rattle.std.proofs.Common.{◌≡◌, ℕ, ◌<◌, ◌≤◌, ◌*◌, ◌^◌, ap, sym, subst, arith, ℤ, pos, ◌*ℤ◌}
use Rattle.std.proofs.Common.{FitsSigned, w64, to_z, of_z}
use Rattle.std.specs.Prelude.{int_div, unsigned_abs}
use Rattle.std.proofs.lemmas.Int.{to_z-of_z, fits_signed_from_abs, unsigned_abs-mul}
use Rattle.std.proofs.lemmas.Nat.{mul-le}
use Rattle.mix_model.specs.Sounds.{scaled}
use Rattle.mix_audio.proofs.Shares.{scaled_small}

-- a number that fits is read as it is
read : (z : ℤ) → unsigned_abs z < 2 ^ 63 → to_z w64 (of_z w64 z) ≡ z
read z small = to_z-of_z w64 z (fits_signed_from_abs w64 z small)

-- the numbers of a call are small
module _ (s : ℤ) (v w n : ℕ) (sample : unsigned_abs s ≤ 32767) (volume : v ≤ 20000)
    (weight : w ≤ n) (fits : n < 2 ^ 32) where
  product_small : unsigned_abs (s *ℤ pos (v * w)) < 2 ^ 63
  product_small =
      let factor : v * w ≤ 20000 * 4294967296 =
      mul-le v w 20000 4294967296 volume (omega (arith, fits, weight)) in
      let product : unsigned_abs s * (v * w) ≤ 32767 * (20000 * 4294967296) =
      mul-le (unsigned_abs s) (v * w) 32767 (20000 * 4294967296) sample factor in
      let size : unsigned_abs (s *ℤ pos (v * w)) ≡ unsigned_abs s * (v * w) =
      unsigned_abs-mul s (pos (v * w)) in
      omega (arith, product, size)

  loudness_read : (a b : ℤ) → a ≡ pos v → b ≡ pos w →
      to_z w64 (of_z w64 (to_z w64 (of_z w64 a) *ℤ to_z w64 (of_z w64 b))) ≡ pos (v * w)
  loudness_read a b av bw =
      let factor : v * w ≤ 20000 * 4294967296 =
      mul-le v w 20000 4294967296 volume (omega (arith, fits, weight)) in
      rw (av, bw, read (pos v) (omega arith), read (pos w) (omega (arith, fits)))
      (read (pos (v * w)) (omega (arith, factor)))

  product_is : (r a b : ℤ) → r ≡ s → a ≡ pos v → b ≡ pos w → to_z w64 (of_z w64 r)
      *ℤ to_z w64 (of_z w64 (to_z w64 (of_z w64 a) *ℤ to_z w64 (of_z w64 b)))
      ≡ s *ℤ pos (v * w)
  product_is r a b rs av bw =
      rw (rs, read s (omega (arith, sample))) (ap (λ z. s *ℤ z) (loudness_read a b av bw))

pub product_fits : (s r a b : ℤ) (v w n : ℕ) → r ≡ s → a ≡ pos v → b ≡ pos w →
    unsigned_abs s ≤ 32767 → v ≤ 20000 → w ≤ n → n < 2 ^ 32 →
    FitsSigned w64 (to_z w64 (of_z w64 r)
    *ℤ to_z w64 (of_z w64 (to_z w64 (of_z w64 a) *ℤ to_z w64 (of_z w64 b))))
product_fits s r a b v w n rs av bw sample volume weight fits =
    subst (FitsSigned w64) (sym (product_is s v w n sample volume weight fits r a b rs av bw))
    (fits_signed_from_abs w64 (s *ℤ pos (v * w)) (product_small s v w n sample volume weight fits))

pub scaled_is : (s r a b d : ℤ) (v w n : ℕ) → r ≡ s → a ≡ pos v → b ≡ pos w → d ≡ pos n →
    unsigned_abs s ≤ 32767 → v ≤ 20000 → w ≤ n → n < 2 ^ 32 → 0 < n →
    to_z w64 (of_z w64 (int_div (to_z w64 (of_z w64 (to_z w64 (of_z w64 r)
    *ℤ to_z w64 (of_z w64 (to_z w64 (of_z w64 a) *ℤ to_z w64 (of_z w64 b))))))
    (to_z w64 (of_z w64 (pos 1000 *ℤ to_z w64 (of_z w64 d)))))) ≡ scaled s v w n
scaled_is s r a b d v w n rs av bw dn sample volume weight fits some =
    let product : ℤ = s *ℤ pos (v * w) in
    rw (
      product_is s v w n sample volume weight fits r a b rs av bw,
      read product (product_small s v w n sample volume weight fits),
      dn,
      read (pos n) (omega (arith, fits)),
      read (pos (1000 * n)) (omega (arith, fits)),
    )
    (read (int_div product (pos (1000 * n)))
    (omega (arith, scaled_small s v w n sample volume weight some)))
