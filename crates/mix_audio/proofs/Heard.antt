-- Tracks one after the other, read frame by frame.
use Rattle.std.proofs.Common.{◌≡◌, ℕ, zero, suc, ◌<◌, ◌+◌, ◌*◌, List, ◌++◌, length}
use Rattle.std.proofs.Common.{get_or, map, flat_map, refl, ap, arith, ◌∙◌, ℤ, pos}
use Rattle.std.specs.List.{range_with_len}
use Rattle.std.proofs.lemmas.List.{get_or_append_left, get_or-append-add, length-append}
use Rattle.mix_audio.proofs.Stereo.{twice, past_left, past_right}

-- a sample on both sides of a frame, which begins here
pub record IsOnBothSides (xs : List ℤ) (at : ℕ) (z : ℤ) : Type 0 where
  pub left : get_or xs at (pos 0) ≡ z
  pub right : get_or xs (at + 1) (pos 0) ≡ z

length-track : (f : ℕ → ℤ) (n low : ℕ) → length (twice (map f (range_with_len low n))) ≡ 2 * n
length-track f zero low = refl
length-track f (suc n) low =
    let rest : length (twice (map f (range_with_len (low + 1) n))) ≡ 2 * n =
    length-track f n (low + 1) in
    omega (arith, rest)

-- the frames of a track
track_frame : (f : ℕ → ℤ) (n low i : ℕ) → i < n →
    IsOnBothSides (twice (map f (range_with_len low n))) (2 * i) (f (low + i))
track_frame f zero low i below = absurd (omega (arith, below))
track_frame f (suc n) low zero below =
    let start : low ≡ low + 0 = omega arith in record { left = ap f start; right = ap f start }
track_frame f (suc n) low (suc i) below =
    let rest : List ℤ = twice (map f (range_with_len (low + 1) n)) in
    let next : low + 1 + i ≡ low + suc i = omega arith in
    let inner : IsOnBothSides rest (2 * i) (f (low + 1 + i)) =
    track_frame f n (low + 1) i (omega (arith, below)) in
    record {
      left = past_left (f low) (f low) rest i (2 * suc i) (omega arith)
          ∙ inner.left ∙ ap f next;
      right = past_right (f low) (f low) rest i (2 * suc i + 1) (omega arith)
          ∙ inner.right ∙ ap f next;
    }

-- and of all tracks
module _ (f : ℕ → ℕ → ℤ) (n : ℕ) where
  abbrev pub tracks : ℕ → ℕ → List ℤ
  tracks low k = flat_map (λ t. twice (map (f t) (range_with_len 0 n))) (range_with_len low k)

  pub length-tracks : (k low : ℕ) → length (tracks low k) ≡ 2 * (n * k)
  length-tracks zero low = let none : n * 0 ≡ 0 = grind arith in omega (arith, none)
  length-tracks (suc k) low =
      let more : n * suc k ≡ n * k + n = grind arith in
      let first : length (twice (map (f low) (range_with_len 0 n))) ≡ 2 * n =
      length-track (f low) n 0 in
      let rest : length (tracks (low + 1) k) ≡ 2 * (n * k) = length-tracks k (low + 1) in
      length-append (twice (map (f low) (range_with_len 0 n))) (tracks (low + 1) k)
      ∙ omega (arith, more, first, rest)

  pub tracks_frame : (k low t i : ℕ) → t < k → i < n →
      IsOnBothSides (tracks low k) (2 * (n * t + i)) (f (low + t) i)
  tracks_frame zero low t i up below = absurd (omega (arith, up))
  tracks_frame (suc k) low zero i up below =
      let none : n * 0 ≡ 0 = grind arith in
      let place : 2 * (n * 0 + i) ≡ 2 * i = omega (arith, none) in
      let start : low ≡ low + 0 = omega arith in
      let counted : 0 + i ≡ i = omega arith in
      let first : List ℤ = twice (map (f low) (range_with_len 0 n)) in
      let long : length first ≡ 2 * n = length-track (f low) n 0 in
      let here : IsOnBothSides first (2 * i) (f low (0 + i)) = track_frame (f low) n 0 i below in
      let heard : f low (0 + i) ≡ f (low + 0) i = ap (f low) counted ∙ ap (λ s. f s i) start in
      record {
        left = ap (λ j. get_or (first ++ tracks (low + 1) k) j (pos 0)) place
            ∙ get_or_append_left first (tracks (low + 1) k) (pos 0) (2 * i)
            (omega (arith, long, below)) ∙ here.left ∙ heard;
        right = ap (λ j. get_or (first ++ tracks (low + 1) k) (j + 1) (pos 0)) place
            ∙ get_or_append_left first (tracks (low + 1) k) (pos 0) (2 * i + 1)
            (omega (arith, long, below)) ∙ here.right ∙ heard;
      }
  tracks_frame (suc k) low (suc t) i up below =
      let more : n * suc t ≡ n * t + n = grind arith in
      let first : List ℤ = twice (map (f low) (range_with_len 0 n)) in
      let long : length first ≡ 2 * n = length-track (f low) n 0 in
      let place : 2 * (n * suc t + i) ≡ length first + 2 * (n * t + i) =
      omega (arith, more, long) in
      let side : 2 * (n * suc t + i) + 1 ≡ length first + (2 * (n * t + i) + 1) =
      omega (arith, more, long) in
      let next : low + 1 + t ≡ low + suc t = omega arith in
      let inner : IsOnBothSides (tracks (low + 1) k) (2 * (n * t + i)) (f (low + 1 + t) i) =
      tracks_frame k (low + 1) t i (omega (arith, up)) below in
      record {
        left = ap (λ j. get_or (first ++ tracks (low + 1) k) j (pos 0)) place
            ∙ get_or-append-add first (tracks (low + 1) k) (2 * (n * t + i)) (pos 0)
            ∙ inner.left ∙ ap (λ s. f s i) next;
        right = ap (λ j. get_or (first ++ tracks (low + 1) k) j (pos 0)) side
            ∙ get_or-append-add first (tracks (low + 1) k) (2 * (n * t + i) + 1) (pos 0)
            ∙ inner.right ∙ ap (λ s. f s i) next;
      }
