-- Where a fractional number occurs in a list and in an object.
use Rattle.std.proofs.Common.{rules, ◌≡◌, ◌∙◌, refl, ap, List, [], ◌∷◌, Bool, ◌||◌, map}
use Rattle.std.specs.List.{list_any}
use Rattle.mix_base.specs.declared.members.Member.{Member}
use Rattle.mix_base.specs.declared.json.Json as json
use Rattle.mix_base.specs.declared.json.Json.{Json, the_lemmas}
use Rattle.mix_base.specs.Json.{Object, has_frac, list_has_frac, obj_has_frac}

any_map : {X Y : Type 0} (test : Y → Bool) (f : X → Y) (xs : List X) → list_any test (map f xs) ≡ list_any (λ x. test (f x)) xs
any_map test f [] = refl
any_map test f (x ∷ xs) = ap (λ b. test (f x) || b) (any_map test f xs)

pub frac_in_list : (items : List Json) → has_frac (json.List items) ≡ list_has_frac items
frac_in_list items =
    let opened : has_frac (json.List items) ≡ list_any (λ b. b) (map has_frac items) = search (rules, the_lemmas) in
    opened ∙ any_map (λ b. b) has_frac items

abbrev on_value : Member Json → Member Bool
on_value m = record { key = m.key; value = has_frac m.value }

pub frac_in_obj : (members : Object) → has_frac (json.Obj members) ≡ obj_has_frac members
frac_in_obj members =
    let opened : has_frac (json.Obj members) ≡ list_any (λ m. m.value) (map on_value members) = search (rules, the_lemmas) in
    opened ∙ any_map (λ m. m.value) on_value members
