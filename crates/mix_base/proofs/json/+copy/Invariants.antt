use Rattle.std.proofs.Common.{◌≡◌, ◌≤◌, take, length, vec_capacity}
use Rattle.mix_base.proofs.json.+copy.Given as goal

-- the items so far, and room for all of them
abbrev pub invariant-copy_list-loop-item : goal.invariant-copy_list-loop-item
invariant-copy_list-loop-item l = record {
  items : l.copy.items ≡ take l.item-index l.items;
  room : length l.items ≤ vec_capacity l.copy;
}

-- the members so far, and room for all of them
abbrev pub invariant-Members+Json::copy-loop-member : goal.invariant-Members+Json::copy-loop-member
invariant-Members+Json::copy-loop-member l = record {
  members : l.copy.items ≡ take l.member-index l.self;
  room : length l.self ≤ vec_capacity l.copy;
}
