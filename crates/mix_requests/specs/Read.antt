-- The fields of a request that are texts of names.
use Rattle.std.specs.Prelude.{ℕ, List, length, ◌==◌, Option, Some, None, Result, Ok, Err}
use Rattle.std.specs.Prelude.{if◌then◌else◌}
use Rattle.mix_base.specs.declared.name.NameFault.{NameFault}
use Rattle.mix_base.specs.declared.name.NameFault.TheVariants.{Empty}
use Rattle.mix_base.specs.Json.{Object}
use Rattle.mix_base.specs.Names.{name_fault}
use Rattle.mix_json.specs.Fields.{◌>>=◌, need_text}
use Rattle.mix_model.specs.declared.body.Body.{Body}
use Rattle.mix_model.specs.declared.body.Body.TheVariants.{Absent, Fields, Wrong}

-- the fields of a request that needs some: 301 where there are none
abbrev pub needed_fields : Body → Result Object ℕ
needed_fields Absent = Err 301
needed_fields (Fields fields) = Ok fields
needed_fields Wrong = Err 301

abbrev pub name_or : List ℕ → Option NameFault → Result (List ℕ) ℕ
name_or bytes None = Ok bytes
name_or bytes (Some Empty) = Err 403
name_or bytes (Some fault) = Err 400

-- a name that a source is to get: 300 where it is missing, 401 where it is no text, 403 where it is
-- empty, and 400 where it is no name for another cause
unfoldable pub new_name : List ℕ → Object → Result (List ℕ) ℕ
new_name key fields = need_text key fields >>= λ bytes. name_or bytes (name_fault bytes)

-- the name of something that is there: 300 where it is missing, 401 where it is no text, 403 where it
-- is empty
unfoldable pub sought_name : List ℕ → Object → Result (List ℕ) ℕ
sought_name key fields = need_text key fields
    >>= λ bytes. (if length bytes == 0 then Err 403 else Ok bytes)
