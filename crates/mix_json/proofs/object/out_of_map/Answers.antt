use Rattle.std.proofs.Common.{◌≡◌, ◌∙◌, ◌++◌, ◌∷◌, [], ap, sym, subst, append_assoc, String, Global, string_cmp, rules}
use Rattle.std.specs.Map.{keys_of}
use Rattle.std.specs.List.Sorted.{IsStrictlySortedBy}
use Rattle.mix_base.specs.declared.json.Json.{Json}
use Rattle.mix_json.proofs.ObjectLemmas.{entries_rise, members_push}
use Rattle.mix_json.proofs.object.out_of_map.Goals as goal

-- one more entry
pub loop-name-preserved : goal.loop-name-preserved
loop-name-preserved c =
    let l = c.loop-name in
    let done = l.invariant.done in
    let e : String Global × Json = (c.in-Some.name, c.in-Some.value) in
    let left = c.next.new.self in
    record {
      done = done ++ e ∷ [];
      rest = l.invariant.rest ∙ ap (λ es. done ++ es) c.in-Some.ensures.steps ∙ sym (append_assoc done (e ∷ []) left);
      members = search (rules, members_push);
      room = search rules;
    }

-- the keys of all entries rise
pub from_rising-requires : goal.from_rising-requires
from_rising-requires c =
    let l = c.loop-name in
    let done = l.invariant.done in
    let all : c.args.map.entries ≡ done = search rules in
    rw l.invariant.members (entries_rise done (subst (λ es. IsStrictlySortedBy string_cmp (keys_of es)) all c.len.ensures.ordered))
