-- The text of pixels one after another.
use Rattle.std.proofs.Common.{◌≡◌, ℕ, zero, suc, ◌+◌, ◌*◌, List, ◌++◌, take, drop, flat_map, codes}
use Rattle.std.proofs.Common.{sym, ap, ◌∙◌, arith}
use Rattle.std.proofs.lemmas.List.{append-nil, append_assoc}
use Rattle.std.specs.List.{range_with_len}
use Rattle.hex.specs.Hex.{encode_lower}
use Rattle.mix_script.specs.PictureText.{pixel_text, pixels_text}

-- what stands for numbers in a row, and for one number more
pub one_more : (f : ℕ → List ℕ) (low n : ℕ) → flat_map f (range_with_len low (suc n))
    ≡ flat_map f (range_with_len low n) ++ f (low + n)
one_more f low zero =
    let same : low ≡ low + 0 = omega arith in append-nil (f low) ∙ ap f same
one_more f low (suc n) =
    let same : low + 1 + n ≡ low + suc n = omega arith in
    ap (λ l. f low ++ l) (one_more f (low + 1) n)
    ∙ sym (append_assoc (f low) (flat_map f (range_with_len (low + 1) n)) (f (low + 1 + n)))
    ∙ ap (λ k. (f low ++ flat_map f (range_with_len (low + 1) n)) ++ f k) same

-- the text of one pixel more
pixels_more : (rgba : List ℕ) (pixel : ℕ) →
    pixels_text rgba (pixel + 1) ≡ pixels_text rgba pixel ++ pixel_text rgba pixel
pixels_more rgba pixel =
    let next : pixel + 1 ≡ suc pixel = omega arith in
    let here : 0 + pixel ≡ pixel = omega arith in
    ap (pixels_text rgba) next ∙ one_more (pixel_text rgba) 0 pixel
    ∙ ap (λ k. pixels_text rgba pixel ++ pixel_text rgba k) here

-- a space and three bytes of a pixel in digits, behind the text of the pixels before it
pub next_pixel : (rgba : List ℕ) (pixel n : ℕ) (text spaced whole digits : List ℕ) →
    text ≡ pixels_text rgba pixel → spaced ≡ text ++ codes " " → whole ≡ spaced ++ digits →
    digits ≡ encode_lower (take n (drop (4 * pixel) rgba)) → n ≡ 3 →
    whole ≡ pixels_text rgba (pixel + 1)
next_pixel rgba pixel n text spaced whole digits before space behind here three =
    behind ∙ ap (λ t. t ++ digits) (space ∙ ap (λ t. t ++ codes " ") before)
    ∙ append_assoc (pixels_text rgba pixel) (codes " ") digits
    ∙ ap (λ t. pixels_text rgba pixel ++ (codes " " ++ t))
    (here ∙ ap (λ m. encode_lower (take m (drop (4 * pixel) rgba))) three)
    ∙ sym (pixels_more rgba pixel)
