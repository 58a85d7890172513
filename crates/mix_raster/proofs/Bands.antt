-- Bands of a picture, one by one and beside each other.
use Rattle.std.proofs.Common.{◌≡◌, ℕ, suc, ◌<◌, ◌≤◌, ◌+◌, ◌-◌, ◌*◌, ◌^◌, List, ◌++◌, length, drop}
use Rattle.std.proofs.Common.{Bool, true, false, nat_lt, IsTrue, get_or, refl, ap, ◌∙◌, sym, subst}
use Rattle.std.proofs.Common.{arith, [], ◌∷◌, zero, Some, None, length-append, add_assoc}
use Rattle.std.proofs.lemmas.Nat.{mul-le}
use Rattle.std.specs.Prelude.{Result, Ok, Err, OnOk}
use Rattle.std.specs.Prelude.{◌&&◌}
use Rattle.std.proofs.lemmas.List.{get_or_append_left, get_or-append_right}
use Rattle.mix_model.specs.declared.draw.Draw.{Draw}
use Rattle.mix_model.specs.declared.draw.Shot.{Shot}
use Rattle.mix_model.specs.declared.picture.Picture.{Picture}
use Rattle.mix_model.specs.Colours.{Colour, black, colour_at, pixel_at}
use Rattle.mix_model.specs.Blending.{faded_colour}
use Rattle.mix_model.specs.Plans.{are_paintable, is_shot, draws_over, base_colour, shot_colour, painted}
use Rattle.mix_model.proofs.FilledLemmas.{filled_by_pixels}
use Rattle.mix_raster.specs.declared.band.Band.{Band}
use Rattle.mix_raster.specs.Fills.{IsFilled, IsOpaque, IsReady, IsPainted}
use Rattle.mix_raster.proofs.Canvases.{pixel_inside}
use Rattle.mix_raster.proofs.Opaque.{base_opaque, shot_opaque}
use Rattle.mix_raster.proofs.Ranges.{shot_parts}

-- a picture is its pixels
pub picture_is : (shot : Shot) (tick : ℕ) (canvas : ℕ × ℕ) (band : Band) (rgba : List ℕ) →
    band.width ≡ canvas.0 → band.top ≡ 0 → band.rows ≡ canvas.1 →
    length rgba ≡ 4 * (band.width * band.rows) → IsPainted shot tick band rgba →
    ◌≡◌ {A = Picture} (record { width = canvas.0; height = canvas.1; rgba = rgba })
    (painted shot tick canvas)
unfolding painted
picture_is shot tick canvas band rgba wide top high long is =
    let made : List ℕ → Picture =
    λ bytes. record { width = canvas.0; height = canvas.1; rgba = bytes } in
    let size : length rgba ≡ 4 * (canvas.0 * canvas.1) =
    long ∙ ap (λ w. 4 * (w * band.rows)) wide ∙ ap (λ h. 4 * (canvas.0 * h)) high in
    ap made (filled_by_pixels canvas (shot_colour shot tick) rgba size pixels) where
      pixels : IsFilled canvas rgba (shot_colour shot tick)
      pixels x y left up =
          let left' : x < band.width = omega arith in
          let up' : y < band.rows = omega arith in
          let place : band.top + y ≡ y = omega arith in
          ap (λ w. pixel_at w rgba x y) (sym wide) ∙ is.painted x y left' up'
          ∙ ap (λ z. shot_colour shot tick x z) place

-- an opaque one
pub picture_opaque : (shot : Shot) (tick : ℕ) (canvas : ℕ × ℕ) (band : Band) (rgba : List ℕ) →
    IsTrue (is_shot tick shot) → band.width ≡ canvas.0 → band.rows ≡ canvas.1 →
    IsPainted shot tick band rgba → (x y : ℕ) → x < canvas.0 → y < canvas.1 →
    (pixel_at canvas.0 rgba x y).alpha ≡ 255
picture_opaque shot tick canvas band rgba valid wide high is x y left up =
    let left' : x < band.width = omega arith in
    let up' : y < band.rows = omega arith in
    ap (λ w. (pixel_at w rgba x y).alpha) (sym wide) ∙ ap (λ c. c.alpha) (is.painted x y left' up')
    ∙ shot_opaque shot tick x (band.top + y) (shot_parts tick shot valid).weights

-- bytes that are all whole
pub white_opaque : (size : ℕ × ℕ) (bytes : ℕ) (rgba : List ℕ) →
    length rgba ≡ 4 * (size.0 * size.1) → ((i : ℕ) → i < length rgba → get_or rgba i 0 ≡ 255) →
    IsOpaque size rgba
white_opaque size bytes rgba long each = record {
  opaque = λ x y left up.
      let inside = pixel_inside size.0 size.1 x y left up in
      each (4 * size.0 * y + 4 * x + 3) (omega (arith, inside));
}

-- pixels of the first bytes, and of the others
first_colour : (xs ys : List ℕ) (k : ℕ) → k + 4 ≤ length xs →
    colour_at (xs ++ ys) k ≡ colour_at xs k
first_colour xs ys k h = rw (
  get_or_append_left xs ys 0 k (omega arith),
  get_or_append_left xs ys 0 (k + 1) (omega arith),
  get_or_append_left xs ys 0 (k + 2) (omega arith),
  get_or_append_left xs ys 0 (k + 3) (omega arith),
) refl

further : (xs ys : List ℕ) (i j : ℕ) → i ≡ length xs + j → get_or (xs ++ ys) i 0 ≡ get_or ys j 0
further xs ys i j is =
    let place : i - length xs ≡ j = omega arith in
    get_or-append_right xs ys (length xs) i 0 refl (omega arith) ∙ ap (λ m. get_or ys m 0) place

further_colour : (xs ys : List ℕ) (i j : ℕ) → i ≡ length xs + j →
    colour_at (xs ++ ys) i ≡ colour_at ys j
further_colour xs ys i j is = rw (
  further xs ys i j is,
  further xs ys (i + 1) (j + 1) (omega arith),
  further xs ys (i + 2) (j + 2) (omega arith),
  further xs ys (i + 3) (j + 3) (omega arith),
) refl

-- where a row of the lower of two bands lies in both
row_below : (w low y : ℕ) → low ≤ y → 4 * w * y ≡ 4 * (w * low) + 4 * w * (y - low)
row_below w low y h =
    let apart : y ≡ low + (y - low) = omega arith in
    ap (λ z. 4 * w * z) apart ∙ grind arith

-- two bands that are filled are one
pub both_filled : (w low high : ℕ) (xs ys : List ℕ) (colour : ℕ → ℕ → Colour) →
    length xs ≡ 4 * (w * low) → IsFilled (w, low) xs colour →
    IsFilled (w, high) ys (λ x y. colour x (low + y)) →
    IsFilled (w, low + high) (xs ++ ys) colour
both_filled w low high xs ys colour long upper lower x y left up =
    by_row (nat_lt y low) refl where
      by_row : (p : Bool) → nat_lt y low ≡ p → pixel_at w (xs ++ ys) x y ≡ colour x y
      by_row true is =
          let h : y < low = grind arith in
          let inside = pixel_inside w low x y left h in
          first_colour xs ys (4 * w * y + 4 * x) (omega (arith, inside)) ∙ upper x y left h
      by_row false is =
          let h : low ≤ y = grind arith in
          let place = row_below w low y h in
          let same : low + (y - low) ≡ y = omega arith in
          further_colour xs ys (4 * w * y + 4 * x) (4 * w * (y - low) + 4 * x)
          (omega (arith, place, long)) ∙ lower x (y - low) left (omega arith)
          ∙ ap (colour x) same

-- and of one that is opaque both parts are
pub upper_opaque : (w low rows : ℕ) (xs ys : List ℕ) → low ≤ rows → length xs ≡ 4 * (w * low) →
    IsOpaque (w, rows) (xs ++ ys) → IsOpaque (w, low) xs
upper_opaque w low rows xs ys fits long opaque = record {
  opaque = λ x y left up.
      let inside = pixel_inside w low x y left up in
      ap (λ c. c.alpha) (sym (first_colour xs ys (4 * w * y + 4 * x) (omega (arith, inside))))
      ∙ opaque.opaque x y left (omega arith);
}

pub lower_opaque : (w low rows : ℕ) (xs ys : List ℕ) → low ≤ rows → length xs ≡ 4 * (w * low) →
    IsOpaque (w, rows) (xs ++ ys) → IsOpaque (w, rows - low) ys
lower_opaque w low rows xs ys fits long opaque = record {
  opaque = λ x y left up.
      let place = row_below w low (low + y) (omega arith) in
      let same : low + y - low ≡ y = omega arith in
      let begins : 4 * w * (low + y) ≡ 4 * (w * low) + 4 * w * y =
      place ∙ ap (λ z. 4 * (w * low) + 4 * w * z) same in
      ap (λ c. c.alpha) (sym (further_colour xs ys (4 * w * (low + y) + 4 * x) (4 * w * y + 4 * x)
      (omega (arith, begins, long)))) ∙ opaque.opaque x (low + y) left (omega arith);
}

-- the rest of draws that can be painted
pub rest_paintable : (tick k : ℕ) (draws : List Draw) → IsTrue (are_paintable tick draws) →
    IsTrue (are_paintable tick (drop k draws))
rest_paintable tick zero draws each = each
rest_paintable tick (suc k) [] each = each
rest_paintable tick (suc k) (draw ∷ draws) each =
    rest_paintable tick k draws (and_rest _ (are_paintable tick draws) each) where
      and_rest : (a b : Bool) → IsTrue (a && b) → IsTrue b
      and_rest true b h = h
      and_rest false b h = cc

-- what a call leaves at its Ok
pub on_ok : {T E : Type 0} {P : Type 0} (r : Result T E) → P → OnOk r P
on_ok (Ok x) p = p
on_ok (Err e) p = tt

pub on_both : {T E : Type 0} {P Q S : Type 0} (r : Result T E) → (P → Q → S) → OnOk r P →
    OnOk r Q → OnOk r S
on_both (Ok x) f p q = f p q
on_both (Err e) f p q = tt

-- a list of a shot over black, or the fade of two, which is known as other bytes
pub base_one : (shot : Shot) (tick : ℕ) (band : Band) (from : List Draw) (rgba : List ℕ) →
    from ≡ shot.from → shot.to ≡ None → IsFilled (band.width, band.rows) rgba
    (λ x y. draws_over tick x (band.top + y) black from) →
    IsFilled (band.width, band.rows) rgba
    (λ x y. base_colour shot tick shot.to x (band.top + y))
base_one shot tick band from rgba is none filled x y left up =
    filled x y left up ∙ ap (draws_over tick x (band.top + y) black) is
    ∙ sym (ap (λ o. base_colour shot tick o x (band.top + y)) none)

pub base_two : (shot : Shot) (tick : ℕ) (band : Band) (from to given : List Draw)
    (a b b' c : List ℕ) → from ≡ shot.from → shot.to ≡ Some to → given ≡ to → b' ≡ b →
    IsFilled (band.width, band.rows) a (λ x y. draws_over tick x (band.top + y) black from) →
    IsFilled (band.width, band.rows) b (λ x y. draws_over tick x (band.top + y) black given) →
    IsFilled (band.width, band.rows) c (λ x y.
    faded_colour shot.t shot.n (pixel_at band.width a x y) (pixel_at band.width b' x y)) →
    IsFilled (band.width, band.rows) c
    (λ x y. base_colour shot tick shot.to x (band.top + y))
base_two shot tick band from to given a b b' c first is second q one other faded x y left up =
    faded x y left up
    ∙ ap (λ s. faded_colour shot.t shot.n s (pixel_at band.width b' x y))
    (one x y left up ∙ ap (draws_over tick x (band.top + y) black) first)
    ∙ ap (λ s. faded_colour shot.t shot.n (draws_over tick x (band.top + y) black shot.from) s)
    (ap (λ bytes. pixel_at band.width bytes x y) q ∙ other x y left up
    ∙ ap (draws_over tick x (band.top + y) black) second)
    ∙ sym (ap (λ o. base_colour shot tick o x (band.top + y)) is)

pub base_opaque_too : (shot : Shot) (tick : ℕ) (band : Band) (rgba : List ℕ) →
    IsTrue (is_shot tick shot) → IsFilled (band.width, band.rows) rgba
    (λ x y. base_colour shot tick shot.to x (band.top + y)) →
    IsOpaque (band.width, band.rows) rgba
base_opaque_too shot tick band rgba valid filled = record {
  opaque = λ x y left up. ap (λ c. c.alpha) (filled x y left up)
      ∙ base_opaque shot tick x (band.top + y) shot.to (shot_parts tick shot valid).weights;
}

-- and the further draws over it
pub shot_painted : (shot : Shot) (tick : ℕ) (band : Band) (over : List Draw) (a b : List ℕ) →
    over ≡ shot.over → IsFilled (band.width, band.rows) a
    (λ x y. base_colour shot tick shot.to x (band.top + y)) →
    IsFilled (band.width, band.rows) b
    (λ x y. draws_over tick x (band.top + y) (pixel_at band.width a x y) over) →
    IsPainted shot tick band b
shot_painted shot tick band over a b is base filled = record {
  painted = λ x y left up. filled x y left up
      ∙ ap (λ below. draws_over tick x (band.top + y) below over) (base x y left up)
      ∙ ap (draws_over tick x (band.top + y) (base_colour shot tick shot.to x (band.top + y))) is;
}

-- black is opaque
pub black_opaque : (size : ℕ × ℕ) (rgba : List ℕ) → IsFilled size rgba (λ x y. black) →
    IsOpaque size rgba
black_opaque size rgba filled = record {
  opaque = λ x y left up. ap (λ c. c.alpha) (filled x y left up);
}

-- the bytes of some first rows of a band
pub rows_fit : (w low rows : ℕ) → low ≤ rows → 4 * w * low ≤ 4 * (w * rows)
rows_fit w low rows h =
    let k : w * low ≤ w * rows = mul-le w low w rows (omega arith) h in
    let e : 4 * w * low ≡ 4 * (w * low) = grind arith in omega (arith, k, e)

-- two bands beside each other
module _ (shot : Shot) (tick low : ℕ) (band upper lower : Band) (above below rgba : List ℕ)
    (fits : low ≤ band.rows) (first : upper ≡ record band { rows = low })
    (second : lower ≡ record band { top = band.top + low; rows = band.rows - low })
    (long : length above ≡ 4 * upper.width * upper.rows) where
  wide : upper.width ≡ band.width
  wide = ap (λ b. b.width) first

  high : upper.rows ≡ low
  high = ap (λ b. b.rows) first

  size : length above ≡ 4 * (band.width * low)
  size = long ∙ ap (λ w. 4 * w * upper.rows) wide ∙ ap (λ h. 4 * band.width * h) high ∙ grind arith

  pub ready_upper : IsReady shot tick band rgba → rgba ≡ above ++ below →
      IsReady shot tick upper above
  ready_upper ready cut =
      let P : Band → Type 0 = λ b. IsReady shot tick b above in
      let tall : band.top + band.rows < 2 ^ 32 = ready.tall in
      let opaque : IsOpaque (band.width, band.rows) (above ++ below) =
      subst (IsOpaque (band.width, band.rows)) cut ready.opaque in
      let is : IsReady shot tick (record band { rows = low }) above = record {
        paintable = ready.paintable;
        tall = omega arith;
        whole = size;
        opaque = upper_opaque band.width low band.rows above below fits size opaque;
      } in
      subst P (sym first) is

  pub ready_lower : IsReady shot tick band rgba → rgba ≡ above ++ below →
      IsReady shot tick lower below
  ready_lower ready cut =
      let P : Band → Type 0 = λ b. IsReady shot tick b below in
      let tall : band.top + band.rows < 2 ^ 32 = ready.tall in
      let opaque : IsOpaque (band.width, band.rows) (above ++ below) =
      subst (IsOpaque (band.width, band.rows)) cut ready.opaque in
      let whole : length (above ++ below) ≡ 4 * (band.width * band.rows) =
      ap length (sym cut) ∙ ready.whole in
      let parts : 4 * (band.width * band.rows)
      ≡ 4 * (band.width * low) + 4 * (band.width * (band.rows - low)) = rows_part in
      let is : IsReady shot tick
      (record band { top = band.top + low; rows = band.rows - low }) below = record {
        paintable = ready.paintable;
        tall = omega arith;
        whole = omega (arith, whole, parts, size, length-append above below);
        opaque = lower_opaque band.width low band.rows above below fits size opaque;
      } in
      subst P (sym second) is where
        rows_part : 4 * (band.width * band.rows)
            ≡ 4 * (band.width * low) + 4 * (band.width * (band.rows - low))
        rows_part =
            let both : band.rows ≡ low + (band.rows - low) = omega arith in
            ap (λ r. 4 * (band.width * r)) both ∙ grind arith

  pub both_painted : (above' below' : List ℕ) → length above' ≡ length above →
      IsPainted shot tick upper above' → IsPainted shot tick lower below' →
      IsPainted shot tick band (above' ++ below')
  both_painted above' below' same one other =
      let P : Band → Type 0 = λ b. IsPainted shot tick b above' in
      let Q : Band → Type 0 = λ b. IsPainted shot tick b below' in
      let a : IsPainted shot tick (record band { rows = low }) above' = subst P first one in
      let b : IsPainted shot tick
      (record band { top = band.top + low; rows = band.rows - low }) below' =
      subst Q second other in
      let rows : low + (band.rows - low) ≡ band.rows = omega arith in
      let filled : IsFilled (band.width, low + (band.rows - low)) (above' ++ below')
      (λ x y. shot_colour shot tick x (band.top + y)) =
      both_filled band.width low (band.rows - low) above' below'
      (λ x y. shot_colour shot tick x (band.top + y)) (same ∙ size) a.painted
      (λ x y left up. b.painted x y left up
      ∙ ap (shot_colour shot tick x) (add_assoc band.top low y)) in record {
        painted = subst (λ (h : ℕ). IsFilled (band.width, h) (above' ++ below')
            (λ x y. shot_colour shot tick x (band.top + y))) rows filled;
      }
