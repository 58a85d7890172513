use Rattle.std.proofs.Common.{◌≡◌, ◌*◌, ◌/◌, ◌∙◌, ap, refl, length, slice_set, get_or, arith}
use Rattle.std.proofs.lemmas.List.Edits.{fill_by_more}
use Rattle.std.proofs.lemmas.List.FromFn.{fill_by_all}
use Rattle.mix_model.specs.Colours.{colour_at}
use Rattle.mix_model.specs.Encoding.{chroma_blue, chroma_red, square_colour}
use Rattle.mix_encode.proofs.Squares.{square_met}
use Rattle.mix_encode.proofs.chroma.fill_chroma_row.Goals as goal

-- one square more
pub loop-x-preserved : goal.loop-x-preserved
loop-x-preserved c =
    let picture = c.args.picture.now in
    let x = c.loop-x.x in
    let y = c.args.y in
    let mean : colour_at c.square-mean.result 0 ≡ square_colour picture x y =
    ap (λ bytes. colour_at bytes 0) c.square-mean.ensures
    ∙ square_met picture x y (8 * x) c.row_at-upper.result.now c.row_at-lower.result.now refl
    (omega arith) c.row_at-upper.ensures.pixels c.row_at-lower.ensures.pixels in
    let blue = c.chroma_blue.ensures ∙ ap chroma_blue mean in
    let red = c.chroma_red.ensures ∙ ap chroma_red mean in
    record {
      blue = λ k below. ap (λ z. get_or (slice_set c.loop-x.blue x z) k 0) blue
          ∙ fill_by_more (λ z. chroma_blue (square_colour picture z y)) c.loop-x.blue x 0
          (omega arith) c.loop-x.invariant.blue k below;
      red = λ k below. ap (λ z. get_or (slice_set c.loop-x.red x z) k 0) red
          ∙ fill_by_more (λ z. chroma_red (square_colour picture z y)) c.loop-x.red x 0
          (omega arith) c.loop-x.invariant.red k below;
    }

-- all squares of the row
pub returns-clause-blue : goal.returns-clause-blue
returns-clause-blue c =
    let width = c.args.picture.now.width / 2 in
    let long : length c.loop-x.blue ≡ width = omega arith in
    fill_by_all (λ x. chroma_blue (square_colour c.args.picture.now x c.args.y)) c.loop-x.blue
    width 0 long (λ k below. c.loop-x.invariant.blue k (omega arith))

pub returns-clause-red : goal.returns-clause-red
returns-clause-red c =
    let width = c.args.picture.now.width / 2 in
    let long : length c.loop-x.red ≡ width = omega arith in
    fill_by_all (λ x. chroma_red (square_colour c.args.picture.now x c.args.y)) c.loop-x.red
    width 0 long (λ k below. c.loop-x.invariant.red k (omega arith))
