use Rattle.std.proofs.Common.{◌≡◌}
use Rattle.std.specs.Vec.Iter.{into_iter_items}
use Rattle.mix_base.specs.Members.{get_of}
use Rattle.mix_base.proofs.members.Members.into_value.Given as goal

-- none of the members so far has the key
abbrev pub invariant-loop-member : goal.invariant-loop-member
invariant-loop-member g l = get_of l.key l.fn.self ≡ get_of l.key (into_iter_items l.member-iterator)
