use Rattle.std.proofs.Common.{◌≡◌, take, map}
use Rattle.mix_json.specs.Growing.{as_field, more_fields, more_items, open_list, open_object}
use Rattle.mix_json.proofs.BackLemmas.{AllBack, MembersBack}
use Rattle.mix_json.proofs.pieces.+put.Given as goal

-- the items so far stand in the list that is open, and come back
abbrev pub invariant-put_items-loop-item : goal.invariant-put_items-loop-item
invariant-put_items-loop-item l = record {
  tokens : l.out.tokens ≡ more_items (take l.item-index l.items) (open_list l.fn.out.tokens);
  before : l.out.before ≡ l.fn.out.before;
  back : AllBack (take l.item-index l.items);
}

-- the members so far stand in the object that is open, and come back
abbrev pub invariant-put_members-loop-member : goal.invariant-put_members-loop-member
invariant-put_members-loop-member l = record {
  tokens : l.out.tokens ≡ more_fields (map as_field (take l.member-index l.members)) (open_object l.fn.out.tokens);
  before : l.out.before ≡ l.fn.out.before;
  back : MembersBack (take l.member-index l.members);
}
