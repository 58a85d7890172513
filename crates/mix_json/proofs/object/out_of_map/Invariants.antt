use Rattle.std.proofs.Common.{◌≡◌, ◌+◌, ◌≤◌, ◌++◌, List, String, Global, length, vec_capacity}
use Rattle.mix_base.specs.declared.json.Json.{Json}
use Rattle.mix_json.specs.Tokens.{members_of}
use Rattle.mix_json.proofs.object.out_of_map.Given as goal

-- the members so far are those of the entries that were given; and there is room for the rest
abbrev pub invariant-loop-name : goal.invariant-loop-name
invariant-loop-name l = record {
  done : List (String Global × Json);
  rest : l.fn.map.entries ≡ done ++ l.name-iterator;
  members : l.members.items ≡ members_of done;
  room : length l.members.items + length l.name-iterator ≤ vec_capacity l.members;
}
