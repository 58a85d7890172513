-- The text of a JSON value.
use Rattle.std.specs.Prelude.{ℕ, List, [], ◌∷◌, map}
use Rattle.serde_json.specs.Data.{Data, Items, Members, null, boolean, number, string, array}
use Rattle.serde_json.specs.Data.{object, no_members, put}
use Rattle.serde_json.specs.Find.{of_integer}
use Rattle.serde_json.specs.View.{items_of}
use Rattle.serde_json.specs.Written.{compact_text}
use Rattle.mix_base.specs.declared.members.Member.{Member}
use Rattle.mix_base.specs.declared.json.Json.{Json}
use Rattle.mix_base.specs.declared.json.Json.TheOpen.{Json-F}
use Rattle.mix_base.specs.declared.json.Json.TheFolds.{fold-Json}

-- the members, put in one after another, so that the keys come in byte order
abbrev pub put_all : List (Member Data) → Members → Members
put_all [] found = found
put_all (m ∷ ms) found = put_all ms (put m.key m.value found)

-- the data of a value, where those of the values inside are known
abbrev pub data_step : Json-F Data → Data
data_step Json-F.Null = null
data_step (Json-F.Bool b) = boolean b
data_step (Json-F.Int z) = number (of_integer z)
data_step Json-F.Frac = null
data_step (Json-F.Text t) = string t
data_step (Json-F.List items) = array (items_of items)
data_step (Json-F.Obj members) = object (put_all members no_members)

-- the data that a value stands for; a fractional number has none, and no value with one is written
abbrev pub data_of : Json → Data
data_of = fold-Json Data data_step

abbrev pub items_data : List Json → Items
items_data items = items_of (map data_of items)

abbrev pub member_data : Member Json → Member Data
member_data m = record { key = m.key; value = data_of m.value }

abbrev pub members_data : List (Member Json) → Members
members_data members = put_all (map member_data members) no_members

-- the text of a value: compact, an object's keys in byte order
unfoldable pub json_text : Json → List ℕ
json_text value = compact_text (data_of value)
