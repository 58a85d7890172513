-- The fields of a JSON object in a message, where null counts as missing.
use Rattle.std.specs.Prelude.{ℕ, ℤ, Bool, List, Option, Some, None, Result}
use Rattle.mix_base.specs.declared.json.Json.{Json}
use Rattle.mix_base.specs.Json.{Object, present, as_int, as_text, as_bool, as_list, as_obj}
use Rattle.mix_json.specs.Fields.{◌>>=◌, or_status}
use Rattle.mix_model.specs.declared.body.Body.{Body}
use Rattle.mix_model.specs.declared.body.Body.TheVariants.{Absent, Fields, Wrong}
use Rattle.mix_session.specs.Close.{missing_field, wrong_type}
use Rattle.mix_session.specs.Table.{if_there}

-- a value of the wanted type, which one of the words `as_int` to `as_obj` of a value says
abbrev pub typed : {A : Type 0} → (Json → Option A) → Json → Result A ℕ
typed seen value = or_status wrong_type (seen value)

-- a field that is needed
abbrev pub needed : List ℕ → Object → Result Json ℕ
needed key fields = or_status missing_field (present key fields)

-- a field that is needed, of its type
abbrev pub whole_at : List ℕ → Object → Result ℤ ℕ
whole_at key fields = needed key fields >>= typed as_int

abbrev pub text_at : List ℕ → Object → Result (List ℕ) ℕ
text_at key fields = needed key fields >>= typed as_text

abbrev pub list_at : List ℕ → Object → Result (List Json) ℕ
list_at key fields = needed key fields >>= typed as_list

abbrev pub object_at : List ℕ → Object → Result Object ℕ
object_at key fields = needed key fields >>= typed as_obj

-- a field that may be missing, of its type where it is there
abbrev pub whole_if_there : List ℕ → Object → Result (Option ℤ) ℕ
whole_if_there key fields = if_there (typed as_int) (present key fields)

abbrev pub text_if_there : List ℕ → Object → Result (Option (List ℕ)) ℕ
text_if_there key fields = if_there (typed as_text) (present key fields)

abbrev pub truth_if_there : List ℕ → Object → Result (Option Bool) ℕ
truth_if_there key fields = if_there (typed as_bool) (present key fields)

-- an object of fields, or something else
abbrev pub body_in : Option Object → Body
body_in (Some fields) = Fields fields
body_in None = Wrong

-- what stands at `requestData`
abbrev pub body_of : Option Json → Body
body_of None = Absent
body_of (Some value) = body_in (as_obj value)
