use Rattle.std.proofs.Common.{◌≡◌, take}
use Rattle.mix_model.proofs.draw.copy_draws.Given as goal

-- the first draws are copied
abbrev pub invariant-loop-draw : goal.invariant-loop-draw
invariant-loop-draw l = l.copies.items ≡ take l.draw-index l.draws
