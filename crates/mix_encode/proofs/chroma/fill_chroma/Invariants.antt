use Rattle.std.proofs.Common.{◌≡◌, ◌*◌, take}
use Rattle.mix_model.specs.Encoding.{chroma_blue, chroma_red, plane, square_colour}
use Rattle.mix_encode.proofs.chroma.fill_chroma.Given as goal

-- the rows of squares so far
abbrev pub invariant-loop-y : goal.invariant-loop-y
invariant-loop-y l = record {
  blue : take (l.width * l.y) l.blue
      ≡ plane l.width l.y (λ x y. chroma_blue (square_colour l.picture x y));
  red : take (l.width * l.y) l.red
      ≡ plane l.width l.y (λ x y. chroma_red (square_colour l.picture x y));
}
