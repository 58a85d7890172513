-- A text that grows: the tokens that stand in it so far. The commas and colons between them come
-- of themselves when the tokens are printed.
use Rattle.std.specs.Prelude.{ℕ, List, [], ◌∷◌, ◌++◌, Bool, map}
use Rattle.json.specs.Token.{Token, begin_object, end_object, begin_array, end_array}
use Rattle.json.specs.Token.{key as key_token}
use Rattle.json.specs.Print.{print}
use Rattle.json.specs.Tree.{json_tokens}
use Rattle.serde_json.specs.Written.{outline}
use Rattle.mix_base.specs.declared.members.Member.{Member}
use Rattle.mix_base.specs.declared.json.Json.{Json}
use Rattle.mix_base.specs.Members.{is_rising, member}
use Rattle.mix_json.specs.Writing.{data_of}

-- a text that grows
abbrev pub Grown : Type 0
Grown = List Token

-- the tokens of a value
unfoldable pub tokens_of : Json → Grown
tokens_of value = json_tokens (outline (data_of value))

-- one more value: an item of the list that is open, or the value of the key that stands last
unfoldable pub more_item : Json → Grown → Grown
more_item value text = text ++ tokens_of value

-- more values, one after another
abbrev pub more_items : List Json → Grown → Grown
more_items [] text = text
more_items (v ∷ vs) text = more_items vs (more_item v text)

-- a key, whose value comes next
unfoldable pub after_key : List ℕ → Grown → Grown
after_key key text = text ++ key_token key ∷ []

-- one more field of the object that is open
unfoldable pub more_field : List ℕ → Json → Grown → Grown
more_field key value text = text ++ key_token key ∷ tokens_of value

-- more fields, one after another
abbrev pub more_fields : List (List ℕ × Json) → Grown → Grown
more_fields [] text = text
more_fields (f ∷ fs) text = more_fields fs (more_field f.0 f.1 text)

-- an object or a list begins, or ends
unfoldable pub open_object : Grown → Grown
open_object text = text ++ begin_object ∷ []

unfoldable pub close_object : Grown → Grown
close_object text = text ++ end_object ∷ []

unfoldable pub open_list : Grown → Grown
open_list text = text ++ begin_array ∷ []

unfoldable pub close_list : Grown → Grown
close_list text = text ++ end_array ∷ []

-- the bytes: no space, the shortest escapes, a comma between the end of a value and the next
unfoldable pub grown_text : Grown → List ℕ
grown_text text = print text

abbrev pub as_member : List ℕ × Json → Member Json
as_member f = member f.0 f.1

abbrev pub as_field : Member Json → List ℕ × Json
as_field m = (m.key, m.value)

-- the keys of the fields rise in byte order, so that none comes twice
abbrev pub are_rising : List (List ℕ × Json) → Bool
are_rising fields = is_rising (map as_member fields)
