use Rattle.std.proofs.Common.{◌≡◌, drop}
use Rattle.mix_base.specs.Members.{get_of}
use Rattle.mix_base.proofs.members.get_in.Given as goal

-- none of the members so far has the key
abbrev pub invariant-loop-member : goal.invariant-loop-member
invariant-loop-member g l = get_of l.key l.members ≡ get_of l.key (drop l.member-index l.members)
