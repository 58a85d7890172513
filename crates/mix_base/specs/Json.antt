-- What stands in a JSON value.
use Rattle.std.specs.Prelude.{ℕ, ℤ, List, Bool, true, false}
use Rattle.std.specs.Prelude.{Option, Some, None, option_and_then, if◌then◌else◌}
use Rattle.std.specs.List.{list_any}
use Rattle.mix_base.specs.Members.{get_of}
use Rattle.mix_base.specs.declared.members.Member.{Member}
use Rattle.mix_base.specs.declared.json.Json.{Json, out-Json}
use Rattle.mix_base.specs.declared.json.Json.TheOpen.{Json-F}
use Rattle.mix_base.specs.declared.json.Json.TheFolds.{fold-Json}

-- an object: its members in rising byte order of their keys
abbrev pub Object : Type 0
Object = List (Member Json)

-- a number that is no whole one from -2^63 to 2^63 - 1 stands in the value, where it is known of
-- the values inside
abbrev pub frac_step : Json-F Bool → Bool
frac_step Json-F.Null = false
frac_step (Json-F.Bool b) = false
frac_step (Json-F.Int z) = false
frac_step Json-F.Frac = true
frac_step (Json-F.Text t) = false
frac_step (Json-F.List items) = list_any (λ b. b) items
frac_step (Json-F.Obj members) = list_any (λ m. m.value) members

-- a number that is no whole one from -2^63 to 2^63 - 1 stands somewhere in the value
abbrev pub has_frac : Json → Bool
has_frac = fold-Json Bool frac_step

-- the same of a list of values
abbrev pub list_has_frac : List Json → Bool
list_has_frac items = list_any has_frac items

-- the same of an object
abbrev pub obj_has_frac : Object → Bool
obj_has_frac members = list_any (λ m. has_frac m.value) members

abbrev obj_in : Json-F Json → Option Object
obj_in Json-F.Null = None
obj_in (Json-F.Bool truth) = None
obj_in (Json-F.Int number) = None
obj_in Json-F.Frac = None
obj_in (Json-F.Text text) = None
obj_in (Json-F.List items) = None
obj_in (Json-F.Obj members) = Some members

-- the value, if it is an object
abbrev pub as_obj : Json → Option Object
as_obj value = obj_in (out-Json value)

abbrev list_in : Json-F Json → Option (List Json)
list_in Json-F.Null = None
list_in (Json-F.Bool truth) = None
list_in (Json-F.Int number) = None
list_in Json-F.Frac = None
list_in (Json-F.Text text) = None
list_in (Json-F.List items) = Some items
list_in (Json-F.Obj members) = None

-- the value, if it is a list
abbrev pub as_list : Json → Option (List Json)
as_list value = list_in (out-Json value)

abbrev text_in : Json-F Json → Option (List ℕ)
text_in Json-F.Null = None
text_in (Json-F.Bool truth) = None
text_in (Json-F.Int number) = None
text_in Json-F.Frac = None
text_in (Json-F.Text text) = Some text
text_in (Json-F.List items) = None
text_in (Json-F.Obj members) = None

-- the value, if it is a text
abbrev pub as_text : Json → Option (List ℕ)
as_text value = text_in (out-Json value)

abbrev int_in : Json-F Json → Option ℤ
int_in Json-F.Null = None
int_in (Json-F.Bool truth) = None
int_in (Json-F.Int number) = Some number
int_in Json-F.Frac = None
int_in (Json-F.Text text) = None
int_in (Json-F.List items) = None
int_in (Json-F.Obj members) = None

-- the value, if it is a whole number from -2^63 to 2^63 - 1
abbrev pub as_int : Json → Option ℤ
as_int value = int_in (out-Json value)

abbrev bool_in : Json-F Json → Option Bool
bool_in Json-F.Null = None
bool_in (Json-F.Bool truth) = Some truth
bool_in (Json-F.Int number) = None
bool_in Json-F.Frac = None
bool_in (Json-F.Text text) = None
bool_in (Json-F.List items) = None
bool_in (Json-F.Obj members) = None

-- the value, if it is a truth value
abbrev pub as_bool : Json → Option Bool
as_bool value = bool_in (out-Json value)

abbrev null_in : Json-F Json → Bool
null_in Json-F.Null = true
null_in (Json-F.Bool truth) = false
null_in (Json-F.Int number) = false
null_in Json-F.Frac = false
null_in (Json-F.Text text) = false
null_in (Json-F.List items) = false
null_in (Json-F.Obj members) = false

-- the value is null
abbrev pub is_null : Json → Bool
is_null value = null_in (out-Json value)

-- the value under a key, where the value is an object that has it
abbrev pub json_get : List ℕ → Json → Option Json
json_get key value = option_and_then (get_of key) (as_obj value)

-- the value, where it isn't null
abbrev pub unless_null : Json → Option Json
unless_null value = if is_null value then None else Some value

-- the value under a key, null counting as missing
abbrev pub present : List ℕ → Object → Option Json
present key members = option_and_then unless_null (get_of key members)
