-- Rows faded to others, some bytes more.
use Rattle.std.proofs.Common.{◌≡◌, ℕ, zero, suc, ◌<◌, ◌≤◌, ◌+◌, List, [], ◌∷◌, ◌++◌, length}
use Rattle.std.proofs.Common.{take, drop, get_or, slice_set, arith, refl, ap}
use Rattle.std.proofs.lemmas.List.{append-nil, take_all, drop_all}
use Rattle.std.specs.Simd.Lanes.{zip2, chunk, put_chunk}

module _ (f : ℕ → ℕ → ℕ) where
  front : (k : ℕ) (old to : List ℕ) → k ≤ length old → length old ≡ length to →
      put_chunk 0 old (zip2 f (chunk 0 k old) (chunk 0 k to))
      ≡ zip2 f (take k old) (take k to) ++ drop k old
  front zero [] [] fits same = refl
  front zero (x ∷ old) (y ∷ to) fits same = refl
  front (suc k) (x ∷ old) (y ∷ to) fits same =
      ap (λ rest. f x y ∷ rest) (front k old to (omega arith) (omega arith))
  front k old to fits same = absurd (omega arith)

  -- some bytes more
  pub more_faded : (at k next : ℕ) (old to : List ℕ) → next ≡ at + k → next ≤ length old →
      length old ≡ length to →
      put_chunk at (zip2 f (take at old) (take at to) ++ drop at old)
      (zip2 f (chunk at k (zip2 f (take at old) (take at to) ++ drop at old)) (chunk at k to))
      ≡ zip2 f (take next old) (take next to) ++ drop next old
  more_faded zero k next old to is fits same =
      let all : next ≡ k = omega arith in rw all (front k old to (omega arith) same)
  more_faded (suc at) k (suc next) (x ∷ old) (y ∷ to) is fits same =
      ap (λ rest. f x y ∷ rest)
      (more_faded at k next old to (omega arith) (omega arith) (omega arith))
  more_faded at k next old to is fits same = absurd (omega arith)

  -- one byte more
  next_faded : (at : ℕ) (old to : List ℕ) → length old ≡ length to → at < length old →
      slice_set (zip2 f (take at old) (take at to) ++ drop at old) at
      (f (get_or (zip2 f (take at old) (take at to) ++ drop at old) at 0) (get_or to at 0))
      ≡ zip2 f (take (suc at) old) (take (suc at) to) ++ drop (suc at) old
  next_faded zero (x ∷ old) (y ∷ to) same h = refl
  next_faded (suc at) (x ∷ old) (y ∷ to) same h =
      ap (λ rest. f x y ∷ rest) (next_faded at old to (omega arith) (omega arith))
  next_faded at old to same h = absurd (omega arith)

  pub one_faded : (at next : ℕ) (old to now : List ℕ) → next ≡ suc at →
      length old ≡ length to → at < length old →
      now ≡ zip2 f (take at old) (take at to) ++ drop at old →
      slice_set now at (f (get_or now at 0) (get_or to at 0))
      ≡ zip2 f (take next old) (take next to) ++ drop next old
  one_faded at next old to now more same h is = rw (more, is) (next_faded at old to same h)

  -- all of them
  pub all_faded : (at : ℕ) (old to : List ℕ) → length old ≤ at → length old ≡ length to →
      zip2 f (take at old) (take at to) ++ drop at old ≡ zip2 f old to
  all_faded at old to all same =
      let all' : length to ≤ at = omega arith in
      rw (take_all at old all, take_all at to all', drop_all at old all)
      (append-nil (zip2 f old to))
