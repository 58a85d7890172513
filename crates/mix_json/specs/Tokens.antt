-- What the tokens of a text stand for, as values of the mixer.
use Rattle.std.specs.Prelude.{ℕ, List, [], ◌∷◌, length, String, string_bytes}
use Rattle.std.specs.Prelude.{Option, Some, option_map, option_and_then}
use Rattle.std.specs.declared.alloc.Global.{Global}
use Rattle.json.specs.Token.{Token}
use Rattle.json.specs.Json as tree
use Rattle.json.specs.Json.{parse_map}
use Rattle.serde_json.specs.Read.{converted, number_of}
use Rattle.mix_base.specs.declared.members.Member.{Member}
use Rattle.mix_base.specs.declared.json.Json.{Json}
use Rattle.mix_base.specs.declared.json.Json as json
use Rattle.mix_base.specs.Json.{Object}
use Rattle.mix_base.specs.Members.{member, put_of}
use Rattle.mix_json.specs.Reading.{of_number}

-- the members put in one after another: the keys come in byte order, and of equal keys the last
-- one stands
abbrev pub put_members : List (Member Json) → Object → Object
put_members [] obj = obj
put_members (m ∷ ms) obj = put_members ms (put_of m.key m.value obj)

-- the value of a number's text, where it isn't beyond a double's range
abbrev pub number_seen : List ℕ → Option Json
number_seen text = option_map of_number (number_of text)

-- the value of a tree of tokens; the members of an object stand in the order of the text
abbrev mutual
  pub seen : tree.Json → Option Json
  seen tree.null = Some json.Null
  seen (tree.boolean b) = Some (json.Bool b)
  seen (tree.number s) = number_seen s
  seen (tree.string s) = Some (json.Text s)
  seen (tree.array js) = option_map (λ vs. json.List vs) (seen_items js)
  seen (tree.object ms) = option_map (λ vs. json.Obj (put_members vs [])) (seen_members ms)

  pub seen_items : tree.Items → Option (List Json)
  seen_items tree.no_items = Some []
  seen_items (tree.item j js) = option_and_then (λ v. option_map (λ vs. v ∷ vs) (seen_items js)) (seen j)

  pub seen_members : tree.Members → Option (List (Member Json))
  seen_members tree.no_members = Some []
  seen_members (tree.member k j ms) =
      option_and_then (λ v. option_map (λ vs. member k v ∷ vs) (seen_members ms)) (seen j)

-- the value that the first tokens stand for, and the tokens behind it; at most so many lists and
-- objects stand within one another
unfoldable pub value_at : ℕ → List Token → Option (Json × List Token)
value_at depth ts = converted seen (tree.value depth ts)

-- the items up to the bracket that closes their list
unfoldable pub items_at : ℕ → List Token → Option (List Json × List Token)
items_at depth ts = converted seen_items (tree.items (tree.value depth) (length ts) ts)

-- the members up to the brace that closes their object, in the order of the text
unfoldable pub members_at : ℕ → List Token → Option (List (Member Json) × List Token)
members_at depth ts = converted seen_members (tree.members (tree.value depth) (length ts) ts)

-- the object up to the brace that closes it
abbrev pub object_at : ℕ → List Token → Option (Object × List Token)
object_at depth ts = parse_map (λ ms. put_members ms []) (members_at depth ts)

-- the entries of a map as members
abbrev pub members_of : List (String Global × Json) → Object
members_of [] = []
members_of (e ∷ es) = member (string_bytes e.0) e.1 ∷ members_of es
