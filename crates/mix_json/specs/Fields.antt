-- The fields of a request: a reader gives a field's value, or the status that refuses the request.
use Rattle.std.specs.Prelude.{ℕ, ℤ, List, Bool, true, false, ◌&&◌, int_le, if◌then◌else◌}
use Rattle.std.specs.Prelude.{Option, Some, None, Result, Ok, Err}
use Rattle.mix_base.specs.declared.json.Json.{Json}
use Rattle.mix_base.specs.Json.{Object, as_bool, as_int, as_obj, as_text, obj_has_frac, present}

-- the statuses that the readers answer with, as obs-websocket 5 numbers them: MissingRequestField,
-- InvalidRequestFieldType and RequestFieldOutOfRange
abbrev pub missing_field : ℕ
missing_field = 300

abbrev pub wrong_type : ℕ
wrong_type = 401

abbrev pub out_of_range : ℕ
out_of_range = 402

-- what comes after a fault isn't looked at: the first fault is the answer
infixl 10 ◌>>=◌
abbrev pub ◌>>=◌ : {A B : Type 0} → Result A ℕ → (A → Result B ℕ) → Result B ℕ
(Ok x) >>= rest = rest x
(Err status) >>= rest = Err status

-- the status, where the test holds
abbrev pub refused_if : Bool → ℕ → Result (Unit {0}) ℕ
refused_if true status = Err status
refused_if false status = Ok tt

-- the value, or the status where there is none
abbrev pub or_status : {A : Type 0} → ℕ → Option A → Result A ℕ
or_status status None = Err status
or_status status (Some x) = Ok x

-- a value of one type, as `as_int` tells it
abbrev pub typed : {A : Type 0} → (Json → Option A) → Json → Result A ℕ
typed as_type value = or_status wrong_type (as_type value)

-- ---- the fields that are needed: 300 where the key is missing or null, 401 where its value is of
-- another type

abbrev pub need : {A : Type 0} → (Json → Option A) → List ℕ → Object → Result A ℕ
need as_type key obj = or_status missing_field (present key obj) >>= typed as_type

abbrev pub need_int : List ℕ → Object → Result ℤ ℕ
need_int = need as_int

abbrev pub need_text : List ℕ → Object → Result (List ℕ) ℕ
need_text = need as_text

abbrev pub need_bool : List ℕ → Object → Result Bool ℕ
need_bool = need as_bool

abbrev pub need_obj : List ℕ → Object → Result Object ℕ
need_obj = need as_obj

-- an object that is kept and told again: a fraction in it is 401
abbrev pub need_kept : List ℕ → Object → Result Object ℕ
need_kept key obj = need_obj key obj
    >>= (λ kept. if obj_has_frac kept then Err wrong_type else Ok kept)

-- ---- the fields that may be missing or null: 401 where the value is of another type

abbrev pub opt_in : {A : Type 0} → (Json → Option A) → Option Json → Result (Option A) ℕ
opt_in as_type None = Ok None
opt_in as_type (Some value) = typed as_type value >>= (λ x. Ok (Some x))

abbrev pub opt : {A : Type 0} → (Json → Option A) → List ℕ → Object → Result (Option A) ℕ
opt as_type key obj = opt_in as_type (present key obj)

abbrev pub opt_int : List ℕ → Object → Result (Option ℤ) ℕ
opt_int = opt as_int

abbrev pub opt_text : List ℕ → Object → Result (Option (List ℕ)) ℕ
opt_text = opt as_text

abbrev pub opt_obj : List ℕ → Object → Result (Option Object) ℕ
opt_obj = opt as_obj

abbrev pub or_absent : {A : Type 0} → A → Option A → A
or_absent absent None = absent
or_absent absent (Some x) = x

-- a truth value, or what stands for a missing one
abbrev pub opt_bool : Bool → List ℕ → Object → Result Bool ℕ
opt_bool absent key obj = opt as_bool key obj >>= (λ x. Ok (or_absent absent x))

-- ---- the range of a number

abbrev pub is_within : ℤ → ℤ → ℤ → Bool
is_within least greatest value = int_le least value && int_le value greatest

-- 402 for a number below the least or above the greatest
abbrev pub in_range : ℤ → ℤ → ℤ → Result ℤ ℕ
in_range least greatest value =
    if is_within least greatest value then Ok value else Err out_of_range
