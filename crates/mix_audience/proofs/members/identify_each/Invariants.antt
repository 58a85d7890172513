use Rattle.std.proofs.Common.{◌≡◌, map, take, drop, ◌++◌}
use Rattle.mix_audience.specs.Sides.{identified}
use Rattle.mix_audience.proofs.members.identify_each.Given as goal

-- so far each has what it becomes, and the rest is as it was
abbrev pub invariant-loop-member : goal.invariant-loop-member
invariant-loop-member l =
    l.members ≡ map (identified l.conn l.mask) (take l.member-index l.fn.members)
    ++ drop l.member-index l.fn.members
