use Rattle.std.proofs.Common.{◌≡◌, take}
use Rattle.mix_model.proofs.collection.copy_lines.Given as goal

-- the first lines are copied
abbrev pub invariant-loop-line : goal.invariant-loop-line
invariant-loop-line l = l.copies.items ≡ take l.line-index l.lines
