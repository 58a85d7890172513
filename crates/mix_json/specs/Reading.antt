-- Which bytes are JSON, and the value that they stand for.
use Rattle.std.specs.Prelude.{ℕ, ℤ, List, [], ◌∷◌, Option, Some, None, option_map, if◌then◌else◌}
use Rattle.std.specs.Str.{is_utf8}
use Rattle.serde_json.specs.Data.{Num, Data, Items, Members, null, boolean, number, string, array}
use Rattle.serde_json.specs.Data.{object, no_items, item, no_members, member}
use Rattle.serde_json.specs.Find.{as_i64}
use Rattle.serde_json.specs.Read.{read}
use Rattle.mix_base.specs.declared.members.Member.{Member}
use Rattle.mix_base.specs.declared.json.Json.{Json}
use Rattle.mix_base.specs.declared.json.Json as json

abbrev pub whole_or_frac : Option ℤ → Json
whole_or_frac (Some z) = json.Int z
whole_or_frac None = json.Frac

-- a whole number from -2^63 to 2^63 - 1 keeps its value; every other number is a fractional one,
-- 1.0 and 1e2 too
abbrev pub of_number : Num → Json
of_number n = whole_or_frac (as_i64 n)

-- the value that the data of a text stands for; the keys of an object rise there already, and of
-- equal keys the last one stands
abbrev mutual
  pub of_data : Data → Json
  of_data null = json.Null
  of_data (boolean b) = json.Bool b
  of_data (number n) = of_number n
  of_data (string s) = json.Text s
  of_data (array ds) = json.List (of_items ds)
  of_data (object ms) = json.Obj (of_members ms)

  pub of_items : Items → List Json
  of_items no_items = []
  of_items (item d ds) = of_data d ∷ of_items ds

  pub of_members : Members → List (Member Json)
  of_members no_members = []
  of_members (member k d ms) = record { key = k; value = of_data d } ∷ of_members ms

-- the value that bytes stand for, where they are the UTF-8 of a JSON text (RFC 8259): at most 127
-- lists and objects within one another, no number beyond a double's range
abbrev pub json_of : List ℕ → Option Json
json_of bytes = if is_utf8 bytes then option_map of_data (read bytes) else None
