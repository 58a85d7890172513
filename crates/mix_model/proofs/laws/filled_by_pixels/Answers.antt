-- row by row, and pixel by pixel in each
use Rattle.mix_model.proofs.FilledLemmas.{filled_by_pixels}
use Rattle.mix_model.proofs.laws.filled_by_pixels.Goals as goal

pub returns : goal.returns
returns c = record { filled = filled_by_pixels }
