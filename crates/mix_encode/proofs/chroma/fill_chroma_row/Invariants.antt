use Rattle.std.proofs.Common.{◌≡◌, ℕ, ◌<◌, get_or}
use Rattle.mix_model.specs.Encoding.{chroma_blue, chroma_red, square_colour}
use Rattle.mix_encode.proofs.chroma.fill_chroma_row.Given as goal

-- the squares so far
abbrev pub invariant-loop-x : goal.invariant-loop-x
invariant-loop-x l = record {
  blue : (k : ℕ) → k < l.x → get_or l.blue k 0 ≡ chroma_blue (square_colour l.picture k l.y);
  red : (k : ℕ) → k < l.x → get_or l.red k 0 ≡ chroma_red (square_colour l.picture k l.y);
}
