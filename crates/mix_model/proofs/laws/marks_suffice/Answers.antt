-- the mark of a serial is that of its row
use Rattle.mix_model.proofs.MarkLemmas.{marks_suffice}
use Rattle.mix_model.proofs.laws.marks_suffice.Goals as goal

pub returns : goal.returns
returns c = record { settled = marks_suffice }
