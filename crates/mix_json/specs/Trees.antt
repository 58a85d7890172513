-- Values as texts are made of them: an object from its fields, in whatever order they are given.
use Rattle.std.specs.Prelude.{ℕ, List, [], ◌∷◌, Option, Some, None}
use Rattle.mix_base.specs.Json.{Object}
use Rattle.mix_base.specs.Members.{put_of}
use Rattle.mix_base.specs.declared.json.Json.{Json}
use Rattle.mix_base.specs.declared.json.Json as json

-- the object with this value under this key, and all its other members as they were
unfoldable pub with_field : List ℕ → Json → Object → Object
with_field key value obj = put_of key value obj

-- the fields put in one after another, so that the keys come in byte order
abbrev pub put_fields : List (List ℕ × Json) → Object → Object
put_fields [] obj = obj
put_fields (f ∷ fs) obj = put_fields fs (with_field f.0 f.1 obj)

-- the object of these fields
abbrev pub obj_of : List (List ℕ × Json) → Object
obj_of fields = put_fields fields []

-- a text, and null where there is none
abbrev pub text_or_null : Option (List ℕ) → Json
text_or_null None = json.Null
text_or_null (Some text) = json.Text text
