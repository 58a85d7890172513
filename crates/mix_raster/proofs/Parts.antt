-- A part of some bytes that was written, and pixels in it and beside it.
use Rattle.std.proofs.Common.{◌≡◌, ℕ, ◌<◌, ◌≤◌, ◌+◌, ◌-◌, List, ◌++◌, length, take, drop, get_or}
use Rattle.std.proofs.Common.{arith, refl, ap, ◌∙◌}
use Rattle.std.proofs.lemmas.List.{length-take-le, get_or-take, get_or-drop, get_or_append_left}
use Rattle.std.proofs.lemmas.List.{get_or-append_right}
use borrow.Rule.Slice.PartMut.{put_mid}
use Rattle.mix_model.specs.Colours.{colour_at}

module _ (a k : ℕ) (xs ys : List ℕ) (fits : a + k ≤ length xs) (long : length ys ≡ k) where
  front : length (take a xs) ≡ a
  front = length-take-le a xs (omega arith)

  byte_before : (i : ℕ) → i < a → get_or (put_mid a k xs ys) i 0 ≡ get_or xs i 0
  byte_before i h =
      get_or_append_left (take a xs) (ys ++ drop k (drop a xs)) 0 i (omega (arith, front))
      ∙ get_or-take a xs i 0 h

  byte_in : (i j : ℕ) → i ≡ a + j → j < k → get_or (put_mid a k xs ys) i 0 ≡ get_or ys j 0
  byte_in i j is h =
      let place : i - a ≡ j = omega arith in
      get_or-append_right (take a xs) (ys ++ drop k (drop a xs)) a i 0 front (omega arith)
      ∙ ap (λ m. get_or (ys ++ drop k (drop a xs)) m 0) place
      ∙ get_or_append_left ys (drop k (drop a xs)) 0 j (omega arith)

  byte_after : (i : ℕ) → a + k ≤ i → get_or (put_mid a k xs ys) i 0 ≡ get_or xs i 0
  byte_after i h =
      let place : a + (k + (i - a - k)) ≡ i = omega arith in
      get_or-append_right (take a xs) (ys ++ drop k (drop a xs)) a i 0 front (omega arith)
      ∙ get_or-append_right ys (drop k (drop a xs)) k (i - a) 0 long (omega arith)
      ∙ get_or-drop k (drop a xs) (i - a - k) 0
      ∙ get_or-drop a xs (k + (i - a - k)) 0
      ∙ ap (λ m. get_or xs m 0) place

  pub colour_before : (i : ℕ) → i + 4 ≤ a → colour_at (put_mid a k xs ys) i ≡ colour_at xs i
  colour_before i h = rw (
    byte_before i (omega arith),
    byte_before (i + 1) (omega arith),
    byte_before (i + 2) (omega arith),
    byte_before (i + 3) (omega arith),
  ) refl

  pub colour_in : (i j : ℕ) → i ≡ a + j → j + 4 ≤ k →
      colour_at (put_mid a k xs ys) i ≡ colour_at ys j
  colour_in i j is h = rw (
    byte_in i j is (omega arith),
    byte_in (i + 1) (j + 1) (omega arith) (omega arith),
    byte_in (i + 2) (j + 2) (omega arith) (omega arith),
    byte_in (i + 3) (j + 3) (omega arith) (omega arith),
  ) refl

  pub colour_after : (i : ℕ) → a + k ≤ i → colour_at (put_mid a k xs ys) i ≡ colour_at xs i
  colour_after i h = rw (
    byte_after i h,
    byte_after (i + 1) (omega arith),
    byte_after (i + 2) (omega arith),
    byte_after (i + 3) (omega arith),
  ) refl

-- a pixel of a part is one of the whole
part_byte : (n a : ℕ) (xs : List ℕ) (i j : ℕ) → i ≡ a + j → j < n →
    get_or (take n (drop a xs)) j 0 ≡ get_or xs i 0
part_byte n a xs i j is h =
    let place : a + j ≡ i = omega arith in
    get_or-take n (drop a xs) j 0 h ∙ get_or-drop a xs j 0 ∙ ap (λ m. get_or xs m 0) place

pub part_colour : (n a : ℕ) (xs : List ℕ) (i j : ℕ) → i ≡ a + j → j + 4 ≤ n →
    colour_at (take n (drop a xs)) j ≡ colour_at xs i
part_colour n a xs i j is h = rw (
  part_byte n a xs i j is (omega arith),
  part_byte n a xs (i + 1) (j + 1) (omega arith) (omega arith),
  part_byte n a xs (i + 2) (j + 2) (omega arith) (omega arith),
  part_byte n a xs (i + 3) (j + 3) (omega arith) (omega arith),
) refl
