use Rattle.std.proofs.Common.{◌≡◌, ◌+◌, ◌*◌, ◌≤◌, ◌++◌, length}
use Rattle.json.specs.Json.{parse_map}
use Rattle.mix_json.specs.Tokens.{items_at, members_at}
use Rattle.mix_json.proofs.tokens.+value.Given as goal

-- a list and an object are looked into with one less
abbrev pub decreases-value_from : goal.decreases-value_from
decreases-value_from l = 5 * l.depth

abbrev pub decreases-value : goal.decreases-value
decreases-value l = 5 * l.depth + 1

abbrev pub decreases-list : goal.decreases-list
decreases-list l = 5 * l.depth + 2

abbrev pub decreases-object : goal.decreases-object
decreases-object l = 5 * l.depth + 4

abbrev pub decreases-members : goal.decreases-members
decreases-members l = 5 * l.depth + 3

abbrev pub decreases-member : goal.decreases-member
decreases-member l = 5 * l.depth + 2

-- the items so far, then those of the tokens that are left, are all
abbrev pub invariant-list-items : goal.invariant-list-items
invariant-list-items l = record {
  all : items_at l.depth l.initial.tokens ≡ parse_map (λ vs. l.found.items ++ vs) (items_at l.depth l.tokens);
  shorter : length l.tokens ≤ length l.initial.tokens;
}

abbrev pub decreases-list-items : goal.decreases-list-items
decreases-list-items l = length l.tokens

-- the members so far, then those of the tokens that are left, are all
abbrev pub invariant-members-members : goal.invariant-members-members
invariant-members-members l = record {
  all : members_at l.depth l.initial.tokens ≡ parse_map (λ vs. l.found.items ++ vs) (members_at l.depth l.tokens);
  shorter : length l.tokens ≤ length l.initial.tokens;
}

abbrev pub decreases-members-members : goal.decreases-members-members
decreases-members-members l = length l.tokens
