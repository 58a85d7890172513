use Rattle.std.proofs.Common.{◌≡◌, ◌++◌, take, drop}
use Rattle.mix_model.specs.Blending.{bytes_faded}
use Rattle.mix_lanes.proofs.fading.fade_onto.Given as goal

-- the first bytes are faded, the others as they were
abbrev pub invariant-loop-at : goal.invariant-loop-at
invariant-loop-at l = l.bytes
    ≡ bytes_faded l.t l.n (take l.at l.fn.bytes) (take l.at l.fn.to) ++ drop l.at l.fn.bytes
