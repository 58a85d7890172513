-- Rows over others, some pixels more.
use Rattle.std.proofs.Common.{◌≡◌, ℕ, zero, suc, ◌≤◌, ◌+◌, ◌*◌, ◌%◌, List, [], ◌∷◌, ◌++◌, length}
use Rattle.std.proofs.Common.{map, take, drop, get_or, slice_set, arith, refl, ap}
use Rattle.std.proofs.lemmas.List.{append-nil, take_all, drop_all}
use Rattle.std.specs.Simd.Lanes.{zip2, chunk, put_chunk}
use Rattle.mix_model.specs.declared.kind.Blend.{Blend}
use Rattle.mix_model.specs.Colours.{Colour, colour_at}
use Rattle.mix_model.specs.Blending.{mode_over, channel_over, over, pixels_over}
use Rattle.mix_lanes.specs.Channels.{nearest_of, weighed, weights_of}
use Rattle.mix_lanes.proofs.Sums.{clear_leaves}

-- whole pixels, weighed by their alphas and divided, lie over those below
pub whole_over : (mode : Blend) (n : ℕ) (s d : List ℕ) → length s ≡ 4 * n → length d ≡ 4 * n →
    map nearest_of (weighed (zip2 (mode_over mode) s d) (weights_of s) d) ≡ pixels_over mode s d
whole_over mode zero [] [] long same = refl
whole_over mode (suc n) (sr ∷ sg ∷ sb ∷ sa ∷ s) (dr ∷ dg ∷ db ∷ da ∷ d) long same = rw (
  clear_leaves (mode_over mode sa da) da,
  whole_over mode n s d (omega arith) (omega arith),
) refl
whole_over mode n s d long same = absurd (omega arith)

-- the row so far, and the rest as it was
abbrev pub so_far : Blend → List ℕ → List ℕ → ℕ → List ℕ
so_far mode old above at = pixels_over mode (take at above) (take at old) ++ drop at old

front : (mode : Blend) (j k : ℕ) (old above : List ℕ) → k ≡ 4 * j → k ≤ length old →
    length old ≡ length above →
    put_chunk 0 old (pixels_over mode (chunk 0 k above) (chunk 0 k old)) ≡ so_far mode old above k
front mode zero zero [] [] whole fits same = refl
front mode zero zero (d ∷ old) (s ∷ above) whole fits same = refl
front mode (suc j) (suc (suc (suc (suc k)))) (dr ∷ dg ∷ db ∷ da ∷ old)
    (sr ∷ sg ∷ sb ∷ sa ∷ above) whole fits same =
    ap (λ rest. channel_over mode sr sa dr ∷ channel_over mode sg sa dg
    ∷ channel_over mode sb sa db ∷ da ∷ rest)
    (front mode j k old above (omega arith) (omega arith) (omega arith))
front mode j k old above whole fits same = absurd (omega arith)

-- some whole pixels more
pub more_over : (mode : Blend) (i j at k next : ℕ) (old above : List ℕ) → at ≡ 4 * i →
    k ≡ 4 * j → next ≡ at + k → next ≤ length old → length old ≡ length above →
    put_chunk at (so_far mode old above at)
    (pixels_over mode (chunk at k above) (chunk at k (so_far mode old above at)))
    ≡ so_far mode old above next
more_over mode zero j zero k next old above begun whole is fits same =
    let all : next ≡ k = omega arith in
    rw all (front mode j k old above whole (omega arith) same)
more_over mode (suc i) j (suc (suc (suc (suc at)))) k (suc (suc (suc (suc next))))
    (dr ∷ dg ∷ db ∷ da ∷ old) (sr ∷ sg ∷ sb ∷ sa ∷ above) begun whole is fits same =
    ap (λ rest. channel_over mode sr sa dr ∷ channel_over mode sg sa dg
    ∷ channel_over mode sb sa db ∷ da ∷ rest)
    (more_over mode i j at k next old above (omega arith) whole (omega arith) (omega arith)
    (omega arith))
more_over mode i j at k next old above begun whole is fits same = absurd (omega arith)

-- one pixel, channel by channel
placed : (mode : Blend) (at : ℕ) (below above : List ℕ) → at + 4 ≤ length below →
    at + 4 ≤ length above →
    slice_set (slice_set (slice_set below at
    (channel_over mode (get_or above at 0) (get_or above (suc (suc (suc at))) 0) (get_or below at 0)))
    (suc at) (channel_over mode (get_or above (suc at) 0) (get_or above (suc (suc (suc at))) 0)
    (get_or below (suc at) 0)))
    (suc (suc at)) (channel_over mode (get_or above (suc (suc at)) 0)
    (get_or above (suc (suc (suc at))) 0) (get_or below (suc (suc at)) 0))
    ≡ put_chunk at below (pixels_over mode (chunk at 4 above) (chunk at 4 below))
placed mode zero (dr ∷ dg ∷ db ∷ da ∷ []) (sr ∷ sg ∷ sb ∷ sa ∷ above) fits room = refl
placed mode zero (dr ∷ dg ∷ db ∷ da ∷ d ∷ below) (sr ∷ sg ∷ sb ∷ sa ∷ above) fits room = refl
placed mode (suc at) (d ∷ below) (s ∷ above) fits room =
    ap (λ rest. d ∷ rest) (placed mode at below above (omega arith) (omega arith))
placed mode at below above fits room = absurd (omega arith)

pub one_over : (mode : Blend) (at second third fourth : ℕ) (below above : List ℕ) →
    second ≡ at + 1 → third ≡ at + 2 → fourth ≡ at + 3 → at + 4 ≤ length below →
    at + 4 ≤ length above →
    slice_set (slice_set (slice_set below at
    (channel_over mode (get_or above at 0) (get_or above fourth 0) (get_or below at 0)))
    second (channel_over mode (get_or above second 0) (get_or above fourth 0)
    (get_or below second 0)))
    third (channel_over mode (get_or above third 0) (get_or above fourth 0) (get_or below third 0))
    ≡ put_chunk at below (pixels_over mode (chunk at 4 above) (chunk at 4 below))
one_over mode at second third fourth below above two three four fits room =
    let two' : second ≡ suc at = omega arith in
    let three' : third ≡ suc (suc at) = omega arith in
    let four' : fourth ≡ suc (suc (suc at)) = omega arith in
    rw (two', three', four') (placed mode at below above fits room)

-- the whole row
pub whole_row : (mode : Blend) (at : ℕ) (old above : List ℕ) → length old ≤ at →
    length old ≡ length above → so_far mode old above at ≡ pixels_over mode above old
whole_row mode at old above all same =
    let all' : length above ≤ at = omega arith in
    rw (take_all at above all', take_all at old all, drop_all at old all)
    (append-nil (pixels_over mode above old))

-- a pixel of a row that was laid over another
abbrev pub colour_by : List ℕ → ℕ → ℕ → ℕ → ℕ → Colour
colour_by bytes red green blue alpha = record {
  red = get_or bytes red 0;
  green = get_or bytes green 0;
  blue = get_or bytes blue 0;
  alpha = get_or bytes alpha 0;
}

pixel_by : (mode : Blend) (x at : ℕ) (above below : List ℕ) → at ≡ 4 * x →
    at + 4 ≤ length below → length below ≡ length above →
    colour_by (pixels_over mode above below) at (suc at) (suc (suc at)) (suc (suc (suc at)))
    ≡ over mode (colour_by above at (suc at) (suc (suc at)) (suc (suc (suc at))))
    (colour_by below at (suc at) (suc (suc at)) (suc (suc (suc at))))
pixel_by mode zero zero (sr ∷ sg ∷ sb ∷ sa ∷ above) (dr ∷ dg ∷ db ∷ da ∷ below) is fits same = refl
pixel_by mode (suc x) (suc (suc (suc (suc at)))) (sr ∷ sg ∷ sb ∷ sa ∷ above)
    (dr ∷ dg ∷ db ∷ da ∷ below) is fits same =
    pixel_by mode x at above below (omega arith) (omega arith) (omega arith)
pixel_by mode x at above below is fits same = absurd (omega arith)

pub pixel_over : (mode : Blend) (x at : ℕ) (above below : List ℕ) → at ≡ 4 * x →
    at + 4 ≤ length below → length below ≡ length above →
    colour_at (pixels_over mode above below) at
    ≡ over mode (colour_at above at) (colour_at below at)
pixel_over mode x at above below is fits same =
    let one : at + 1 ≡ suc at = omega arith in
    let two : at + 2 ≡ suc (suc at) = omega arith in
    let three : at + 3 ≡ suc (suc (suc at)) = omega arith in
    rw (one, two, three) (pixel_by mode x at above below is fits same)

-- a row of which the pixels before a place lie over what was below them
pub record IsLaid (mode : Blend) (old above : List ℕ) (at : ℕ) (now : List ℕ) : Type 0 where
  pub within : at ≤ length old
  pub whole : at % 4 ≡ 0
  pub laid : now ≡ so_far mode old above at
