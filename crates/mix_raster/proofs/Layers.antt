-- A row of a band under a draw, and the band.
use Rattle.std.proofs.Common.{◌≡◌, ℕ, ◌<◌, ◌≤◌, ◌+◌, ◌-◌, ◌*◌, List, length, get_or, ap, ◌∙◌, sym, subst}
use Rattle.std.proofs.Common.{Bool, true, false, nat_lt, Some, None, [], ◌∷◌, refl, zero-add, arith}
use Rattle.std.proofs.lemmas.List.{length-take-le}
use Rattle.mix_model.specs.declared.draw.Draw.{Draw}
use Rattle.mix_model.specs.Colours.{Colour, colour_at, pixel_at}
use Rattle.mix_model.specs.Blending.{over}
use Rattle.mix_model.specs.Plans.{source_of, draw_over, draws_over}
use Rattle.mix_raster.specs.declared.band.Band.{Band}
use Rattle.mix_raster.specs.declared.way.Way.{Way}
use Rattle.mix_raster.specs.Axes.{exchanged}
use Rattle.mix_raster.specs.Ways.{column_led, row_led, met, pixel_led, places_of, IsLed, Shows}
use Rattle.mix_raster.specs.Fills.{IsFilled, IsOpaque, IsPaintedAt}
use Rattle.mix_raster.proofs.Opaque.{draws_keep}
use Rattle.mix_raster.proofs.Rows.{rows_apart}
use Rattle.mix_raster.proofs.Sources.{source_led, draw_is_over, unseen_column, unseen_row}

-- a row of which so many pixels, from the first column that leads somewhere on, were laid over what
-- was there, while all else was left: the draw over it
module _ (tick y start line : ℕ) (draw : Draw) (way : Way) (band : Band) (old new row : List ℕ)
    (led : IsLed way draw band) (leads : row_led draw y ≡ Some line)
    (shown : Shows draw tick way.swap (places_of way.across) line row)
    (here : (i : ℕ) → i < way.across.count → colour_at new (start + 4 * way.across.first + 4 * i)
    ≡ over draw.blend (colour_at row (4 * i)) (colour_at old (start + 4 * way.across.first + 4 * i)))
    (before : (k : ℕ) → k + 4 ≤ start + 4 * way.across.first → colour_at new k ≡ colour_at old k)
    (after : (k : ℕ) → start + 4 * way.across.first + 4 * way.across.count ≤ k →
    colour_at new k ≡ colour_at old k) where
  counted : length (places_of way.across) ≡ way.across.count
  counted = length-take-le way.across.count way.across.table.items led.across

  column : (i : ℕ) → i < way.across.count → column_led draw (way.across.first + i)
      ≡ Some (get_or (places_of way.across) i 0)
  column i small = ap (column_led draw) (sym (zero-add (way.across.first + i)))
      ∙ led.columns.inside i (omega (arith, counted))

  pixel : (i : ℕ) → i < way.across.count →
      colour_at row (4 * i) ≡ source_of tick (way.across.first + i) y draw
  pixel i small =
      let place : ℕ = get_or (places_of way.across) i 0 in
      shown.shown i (omega (arith, counted))
      ∙ ap (λ swap. pixel_led draw.settings draw.since tick swap place line) led.swap
      ∙ sym (source_led tick (way.across.first + i) y draw
      ∙ ap (λ o. met draw.settings draw.since tick (exchanged draw.steps) o (row_led draw y))
      (column i small)
      ∙ ap (λ o. met draw.settings draw.since tick (exchanged draw.steps) (Some place) o) leads)

  inside : (i : ℕ) → i < way.across.count → colour_at new (start + 4 * (way.across.first + i))
      ≡ draw_over tick (way.across.first + i) y
      (colour_at old (start + 4 * (way.across.first + i))) draw
  inside i small =
      let x : ℕ = way.across.first + i in
      let at : start + 4 * way.across.first + 4 * i ≡ start + 4 * (way.across.first + i) =
      omega arith in
      let P : ℕ → Type 0 = λ k.
      colour_at new k ≡ over draw.blend (colour_at row (4 * i)) (colour_at old k) in
      subst P at (here i small)
      ∙ ap (λ s. over draw.blend s (colour_at old (start + 4 * (way.across.first + i))))
      (pixel i small)
      ∙ draw_is_over tick (way.across.first + i) y
      (colour_at old (start + 4 * (way.across.first + i))) draw

  outside : (x : ℕ) → colour_at new (start + 4 * x) ≡ colour_at old (start + 4 * x) →
      column_led draw x ≡ None → colour_at new (start + 4 * x)
      ≡ draw_over tick x y (colour_at old (start + 4 * x)) draw
  outside x same nothing = same
      ∙ sym (unseen_column tick x y (colour_at old (start + 4 * x)) draw nothing)

  row_painted : (x : ℕ) → x < band.width → colour_at new (start + 4 * x)
      ≡ draw_over tick x y (colour_at old (start + 4 * x)) draw
  row_painted x within = by_first (nat_lt x way.across.first) refl where
    by_end : way.across.first ≤ x → (p : Bool) →
        nat_lt x (way.across.first + way.across.count) ≡ p → colour_at new (start + 4 * x)
        ≡ draw_over tick x y (colour_at old (start + 4 * x)) draw
    by_end low true is =
        let high : x < way.across.first + way.across.count = grind arith in
        let same : way.across.first + (x - way.across.first) ≡ x = omega arith in
        let P : ℕ → Type 0 = λ z. colour_at new (start + 4 * z)
        ≡ draw_over tick z y (colour_at old (start + 4 * z)) draw in
        subst P same (inside (x - way.across.first) (omega arith))
    by_end low false is =
        let high : way.across.first + way.across.count ≤ x = grind arith in
        outside x (after (start + 4 * x) (omega arith))
        (ap (column_led draw) (sym (zero-add x)) ∙ led.columns.after x (omega (arith, counted)) within)

    by_first : (p : Bool) → nat_lt x way.across.first ≡ p → colour_at new (start + 4 * x)
        ≡ draw_over tick x y (colour_at old (start + 4 * x)) draw
    by_first true is =
        let low : x < way.across.first = grind arith in
        outside x (before (start + 4 * x) (omega arith))
        (ap (column_led draw) (sym (zero-add x)) ∙ led.columns.before x low)
    by_first false is = let low : way.across.first ≤ x = grind arith in
        by_end low (nat_lt x (way.across.first + way.across.count)) refl

-- and so the row of the band, where it begins in the band's bytes
pub painted_at : (tick start line i : ℕ) (draw : Draw) (way : Way) (band : Band)
    (old new row : List ℕ) → IsLed way draw band → i < way.down.count →
    start ≡ 4 * band.width * (way.down.first + i) → line ≡ get_or (places_of way.down) i 0 →
    Shows draw tick way.swap (places_of way.across) line row →
    ((i : ℕ) → i < way.across.count → colour_at new (start + 4 * way.across.first + 4 * i)
    ≡ over draw.blend (colour_at row (4 * i))
    (colour_at old (start + 4 * way.across.first + 4 * i))) →
    ((k : ℕ) → k + 4 ≤ start + 4 * way.across.first → colour_at new k ≡ colour_at old k) →
    ((k : ℕ) → start + 4 * way.across.first + 4 * way.across.count ≤ k →
    colour_at new k ≡ colour_at old k) →
    IsPaintedAt tick draw band (way.down.first + i) old new
painted_at tick start line i draw way band old new row led small begins reads shown here before after =
    let y : ℕ = way.down.first + i in
    let rows : length (places_of way.down) ≡ way.down.count =
    length-take-le way.down.count way.down.table.items led.down in
    let columns : length (places_of way.across) ≡ way.across.count =
    length-take-le way.across.count way.across.table.items led.across in
    let ends : way.across.first + way.across.count ≤ band.width =
    omega (arith, led.columns.within, columns) in
    let leads : row_led draw (band.top + (way.down.first + i)) ≡ Some line =
    led.rows.inside i (omega (arith, rows)) ∙ ap (λ (u : ℕ). Some u) (sym reads) in record {
      here = λ x left.
          let P : ℕ → Type 0 = λ s. colour_at new (s + 4 * x)
          ≡ draw_over tick x (band.top + (way.down.first + i)) (colour_at old (s + 4 * x)) draw in
          subst P begins (row_painted tick (band.top + (way.down.first + i)) start line draw way
          band old new row led leads shown here before after x left);
      above = λ x j left up.
          let apart = rows_apart band.width j (way.down.first + i) up in
          before (4 * band.width * j + 4 * x) (omega (arith, apart, begins));
      under = λ x j left down.
          let apart = rows_apart band.width (way.down.first + i) j down in
          after (4 * band.width * j + 4 * x) (omega (arith, apart, begins, ends));
    }

-- a band of which so many rows, from the first on, are painted, while all others are as they were
pub record AreRowsPainted (width first count : ℕ) (painted : ℕ → ℕ → Colour → Colour)
    (old now : List ℕ) : Type 0 where
  pub done : (x j : ℕ) → x < width → first ≤ j → j < first + count →
      pixel_at width now x j ≡ painted x j (pixel_at width old x j)
  pub above : (x j : ℕ) → x < width → j < first →
      pixel_at width now x j ≡ pixel_at width old x j
  pub under : (x j : ℕ) → x < width → first + count ≤ j →
      pixel_at width now x j ≡ pixel_at width old x j

-- none yet
pub none_painted : (width first : ℕ) (painted : ℕ → ℕ → Colour → Colour) (old : List ℕ) →
    AreRowsPainted width first 0 painted old old
none_painted width first painted old = record {
  done = λ x j left low high. absurd (omega arith);
  above = λ x j left low. refl;
  under = λ x j left low. refl;
}

-- a row more
pub row_more : (tick : ℕ) (draw : Draw) (band : Band) (first count : ℕ) (old now new : List ℕ) →
    AreRowsPainted band.width first count
    (λ x j below. draw_over tick x (band.top + j) below draw) old now →
    IsPaintedAt tick draw band (first + count) now new →
    AreRowsPainted band.width first (count + 1)
    (λ x j below. draw_over tick x (band.top + j) below draw) old new
row_more tick draw band first count old now new so_far row = record {
  done = λ x j left low high. by_row x j left low high (nat_lt j (first + count)) refl;
  above = λ x j left low. row.above x j left (omega arith) ∙ so_far.above x j left low;
  under = λ x j left low. row.under x j left (omega arith) ∙ so_far.under x j left (omega arith);
} where
  by_row : (x j : ℕ) → x < band.width → first ≤ j → j < first + (count + 1) → (p : Bool) →
      nat_lt j (first + count) ≡ p → pixel_at band.width new x j
      ≡ draw_over tick x (band.top + j) (pixel_at band.width old x j) draw
  by_row x j left low high true is =
      let h : j < first + count = grind arith in
      row.above x j left h ∙ so_far.done x j left low h
  by_row x j left low high false is =
      let h : first + count ≤ j = grind arith in
      let same : first + count ≡ j = omega arith in
      let P : ℕ → Type 0 = λ k. pixel_at band.width new x k
      ≡ draw_over tick x (band.top + k) (pixel_at band.width old x k) draw in
      subst P same (row.here x left
      ∙ ap (λ below. draw_over tick x (band.top + (first + count)) below draw)
      (so_far.under x (first + count) left (omega arith)))

-- all rows that a draw leads to: the draw over the band
pub band_painted : (tick count : ℕ) (draw : Draw) (way : Way) (band : Band) (old now : List ℕ) →
    IsLed way draw band → count ≡ way.down.count →
    AreRowsPainted band.width way.down.first count
    (λ x j below. draw_over tick x (band.top + j) below draw) old now →
    IsFilled (band.width, band.rows) now
    (λ x j. draw_over tick x (band.top + j) (pixel_at band.width old x j) draw)
band_painted tick count draw way band old now led all painted x j left up =
    by_first (nat_lt j way.down.first) refl where
      rows : length (places_of way.down) ≡ way.down.count
      rows = length-take-le way.down.count way.down.table.items led.down

      unseen : pixel_at band.width now x j ≡ pixel_at band.width old x j →
          row_led draw (band.top + j) ≡ None → pixel_at band.width now x j
          ≡ draw_over tick x (band.top + j) (pixel_at band.width old x j) draw
      unseen same nothing =
          same ∙ sym (unseen_row tick x (band.top + j) (pixel_at band.width old x j) draw nothing)

      by_end : way.down.first ≤ j → (p : Bool) → nat_lt j (way.down.first + count) ≡ p →
          pixel_at band.width now x j
          ≡ draw_over tick x (band.top + j) (pixel_at band.width old x j) draw
      by_end low true is =
          let high : j < way.down.first + count = grind arith in painted.done x j left low high
      by_end low false is =
          let high : way.down.first + count ≤ j = grind arith in
          unseen (painted.under x j left high) (led.rows.after j (omega (arith, rows, all)) up)

      by_first : (p : Bool) → nat_lt j way.down.first ≡ p → pixel_at band.width now x j
          ≡ draw_over tick x (band.top + j) (pixel_at band.width old x j) draw
      by_first true is =
          let low : j < way.down.first = grind arith in
          unseen (painted.above x j left low) (led.rows.before j low)
      by_first false is = let low : way.down.first ≤ j = grind arith in
          by_end low (nat_lt j (way.down.first + count)) refl

-- draws leave a band opaque
pub draws_opaque : (tick top : ℕ) (size : ℕ × ℕ) (draws : List Draw) (old now : List ℕ) →
    IsOpaque size old →
    IsFilled size now (λ x y. draws_over tick x (top + y) (pixel_at size.0 old x y) draws) →
    IsOpaque size now
draws_opaque tick top size draws old now opaque painted = record {
  opaque = λ x y left up. ap (λ c. c.alpha) (painted x y left up)
      ∙ draws_keep tick x (top + y) draws (pixel_at size.0 old x y) ∙ opaque.opaque x y left up;
}

-- and so do the rows of one
pub rows_opaque : (tick first count : ℕ) (draw : Draw) (band : Band) (old now : List ℕ) →
    IsOpaque (band.width, band.rows) old → AreRowsPainted band.width first count
    (λ x j below. draw_over tick x (band.top + j) below draw) old now →
    IsOpaque (band.width, band.rows) now
rows_opaque tick first count draw band old now opaque painted = record {
  opaque = λ x j left up. by_first x j left up (nat_lt j first) refl;
} where
  by_end : (x j : ℕ) → x < band.width → j < band.rows → first ≤ j → (p : Bool) →
      nat_lt j (first + count) ≡ p → (pixel_at band.width now x j).alpha ≡ 255
  by_end x j left up low true is =
      let high : j < first + count = grind arith in
      ap (λ c. c.alpha) (painted.done x j left low high)
      ∙ draws_keep tick x (band.top + j) (draw ∷ []) (pixel_at band.width old x j)
      ∙ opaque.opaque x j left up
  by_end x j left up low false is =
      let high : first + count ≤ j = grind arith in
      ap (λ c. c.alpha) (painted.under x j left high) ∙ opaque.opaque x j left up

  by_first : (x j : ℕ) → x < band.width → j < band.rows → (p : Bool) → nat_lt j first ≡ p →
      (pixel_at band.width now x j).alpha ≡ 255
  by_first x j left up true is =
      let low : j < first = grind arith in
      ap (λ c. c.alpha) (painted.above x j left low) ∙ opaque.opaque x j left up
  by_first x j left up false is =
      let low : first ≤ j = grind arith in by_end x j left up low (nat_lt j (first + count)) refl

-- the part of a row that a draw is laid over is opaque
pub part_opaque : (draw : Draw) (way : Way) (band : Band) (old : List ℕ) (start n : ℕ) →
    IsLed way draw band → IsOpaque (band.width, band.rows) old → n < way.down.count →
    start ≡ 4 * band.width * (way.down.first + n) → (i : ℕ) → i < way.across.count →
    (colour_at old (start + 4 * way.across.first + 4 * i)).alpha ≡ 255
part_opaque draw way band old start n led opaque small begins i fits =
    let rows : length (places_of way.down) ≡ way.down.count =
    length-take-le way.down.count way.down.table.items led.down in
    let columns : length (places_of way.across) ≡ way.across.count =
    length-take-le way.across.count way.across.table.items led.across in
    let right : way.across.first + i < band.width = omega (arith, led.columns.within, columns) in
    let low : way.down.first + n < band.rows = omega (arith, led.rows.within, rows) in
    let place : 4 * band.width * (way.down.first + n) + 4 * (way.across.first + i)
    ≡ start + 4 * way.across.first + 4 * i = omega (arith, begins) in
    let P : ℕ → Type 0 = λ k. (colour_at old k).alpha ≡ 255 in
    subst P place (opaque.opaque (way.across.first + i) (way.down.first + n) right low)
