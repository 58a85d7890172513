use Rattle.std.proofs.Common.{refl, arith}
use Rattle.mix_model.specs.Encoding.{i420_of}
use Rattle.mix_encode.proofs.Squares.{squares_fill}
use Rattle.mix_encode.proofs.raw.fill_planes.Goals as goal

-- a byte in each plane of colour for every square
pub fill_chroma-requires-clause-blue : goal.fill_chroma-requires-clause-blue
fill_chroma-requires-clause-blue c =
    let squares = squares_fill c.args.picture.now.width c.args.picture.now.height
    c.requires.even_width c.requires.even_height in omega (arith, squares)

pub fill_chroma-requires-clause-red : goal.fill_chroma-requires-clause-red
fill_chroma-requires-clause-red c =
    let squares = squares_fill c.args.picture.now.width c.args.picture.now.height
    c.requires.even_width c.requires.even_height in omega (arith, squares)

-- the three planes
pub returns : goal.returns
unfolding i420_of
returns c = rw (c.fill_luma.ensures, c.fill_chroma.ensures.blue, c.fill_chroma.ensures.red) refl
