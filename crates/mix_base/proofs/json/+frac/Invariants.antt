use Rattle.std.proofs.Common.{◌≡◌, take, false}
use Rattle.mix_base.specs.Json.{list_has_frac, obj_has_frac}
use Rattle.mix_base.proofs.json.+frac.Given as goal

-- none of the items so far
abbrev pub invariant-list_has_frac-loop-item : goal.invariant-list_has_frac-loop-item
invariant-list_has_frac-loop-item l = list_has_frac (take l.item-index l.items) ≡ false

-- none of the members so far
abbrev pub invariant-Members+Json::has_frac-loop-member : goal.invariant-Members+Json::has_frac-loop-member
invariant-Members+Json::has_frac-loop-member l = obj_has_frac (take l.member-index l.self) ≡ false
