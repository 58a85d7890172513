use Rattle.std.proofs.Common.{◌≡◌, ◌+◌, ◌*◌, ◌/◌, ◌<◌, ℕ, length, get_or, refl, subst, arith}
use Rattle.mix_model.specs.Colours.{colour_at}
use Rattle.mix_raster.proofs.SpanPixels.{span_fits, column_at, spans_more, spans_end}
use Rattle.mix_raster.proofs.repeats.fill_times.Goals as goal

-- a pixel more, so many times
pub loop-k-preserved : goal.loop-k-preserved
loop-k-preserved c =
    let columns = c.args.columns.now in
    let whole : ℕ = length columns / c.args.times in
    let small : c.loop-k.k < whole = omega arith in
    spans_more c.args.times c.loop-k.k c.args.start (get_or columns 0 0) (c.loop-k.k + 1) columns
    c.args.pixels.now c.four_at.result c.loop-k.row c.put_times.new.row c.requires.some
    c.requires.repeated
    (span_fits c.args.times c.loop-k.k (length columns) whole refl small) refl refl
    c.four_at.ensures c.loop-k.invariant c.put_times.ensures.here c.put_times.ensures.before

-- the last column leads to the pixel behind the whole spans
pub four_at-last-requires : goal.four_at-last-requires
four_at-last-requires c =
    let columns = c.args.columns.now in
    let times = c.args.times in
    let whole : ℕ = length columns / times in
    let at : ℕ = whole * times in
    let left : at < length columns = omega arith in
    let leads : get_or columns at 0 ≡ get_or columns 0 0 + whole =
    column_at times whole at columns c.requires.some c.requires.repeated (omega arith)
    (omega (arith, c.requires.some)) left in
    let inside = c.requires.inside at left in
    omega (arith, inside, leads)

-- and the last pixel, as often as there are columns left
pub returns-then-at-columns : goal.returns-then-at-columns
returns-then-at-columns c =
    let columns = c.args.columns.now in
    let whole : ℕ = length columns / c.args.times in
    let all : c.loop-k.k ≡ whole = omega arith in
    let P : ℕ → Type 0 = λ k. (i : ℕ) → i < k * c.args.times → colour_at c.loop-k.row (4 * i)
    ≡ colour_at c.args.pixels.now (4 * (c.args.start + get_or columns i 0)) in
    record {
      shown = λ i small. spans_end c.args.times whole (length columns) c.args.start
          (get_or columns 0 0) columns c.args.pixels.now c.four_at-last.result c.loop-k.row
          c.put_times-then-at-columns.new.row c.requires.some c.requires.repeated refl refl refl
          c.four_at-last.ensures (subst P all c.loop-k.invariant)
          c.put_times-then-at-columns.ensures.here c.put_times-then-at-columns.ensures.before i small;
    }
