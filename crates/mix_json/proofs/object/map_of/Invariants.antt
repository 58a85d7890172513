use Rattle.std.proofs.Common.{◌≡◌, []}
use Rattle.std.specs.Vec.Iter.{into_iter_items}
use Rattle.mix_json.specs.Tokens.{members_of, put_members}
use Rattle.mix_json.proofs.object.map_of.Given as goal

-- the map so far, with the members that are left, is the whole object
abbrev pub invariant-loop-member : goal.invariant-loop-member
invariant-loop-member l = put_members l.fn.members.items [] ≡ put_members (into_iter_items l.member-iterator) (members_of l.map.entries)
