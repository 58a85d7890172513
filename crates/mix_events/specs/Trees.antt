-- The fields of a JSON object: keys and their values.
use Rattle.std.specs.Prelude.{ℕ, ℤ, pos, Bool, List}
use Rattle.mix_base.specs.declared.json.Json.{Json}
use Rattle.mix_base.specs.declared.json.Json as json
use Rattle.mix_json.specs.Trees.{obj_of}

-- a key and its value
abbrev pub Field : Type 0
Field = List ℕ × Json

-- any value under its key
abbrev pub value : List ℕ → Json → Field
value key tree = (key, tree)

-- a truth value under its key
abbrev pub flag : List ℕ → Bool → Field
flag key truth = (key, json.Bool truth)

-- a number from 0 on under its key
abbrev pub number : List ℕ → ℕ → Field
number key n = (key, json.Int (pos n))

-- a whole number under its key
abbrev pub integer : List ℕ → ℤ → Field
integer key z = (key, json.Int z)

-- a text under its key
abbrev pub text : List ℕ → List ℕ → Field
text key bytes = (key, json.Text bytes)

-- an object under its key, made of its fields
abbrev pub object : List ℕ → List Field → Field
object key fields = (key, json.Obj (obj_of fields))
