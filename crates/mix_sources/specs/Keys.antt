-- The keys of settings: a reader gives the value under its key, what stands there where the key is
-- missing, or the fault of the key. Null is a value of another type.
use Rattle.std.specs.Prelude.{ℕ, ℤ, pos, negsuc, List, Option, Some, None, Result, Ok, Err}
use Rattle.std.specs.Prelude.{if◌then◌else◌}
use Rattle.mix_base.specs.declared.json.Json.{Json}
use Rattle.mix_base.specs.Json.{Object, as_int, as_text}
use Rattle.mix_base.specs.Members.{get_of}
use Rattle.mix_json.specs.Fields.{◌>>=◌, in_range, opt_in, out_of_range, typed}
use Rattle.mix_model.specs.Values.{is_between}
use Rattle.mix_sources.specs.declared.fault.BadSetting.{BadSetting}

-- a key whose value is refused, and the status that says why
abbrev pub bad : List ℕ → ℕ → BadSetting
bad key status = record { key = key; status = status }

-- what a reader says of the value under a key
abbrev pub at_key : {A : Type 0} → List ℕ → Result A ℕ → Result A BadSetting
at_key key (Ok x) = Ok x
at_key key (Err status) = Err (bad key status)

-- what is read from the value, and what stands where there is none
abbrev pub or_standing : {A : Type 0} → A → (Json → Result A ℕ) → Option Json → Result A ℕ
or_standing standing read None = Ok standing
or_standing standing read (Some value) = read value

-- a number from the least to the most
abbrev pub number_in : ℕ → ℕ → ℤ → Result ℕ ℕ
number_in least most (pos n) = if is_between least most n then Ok n else Err out_of_range
number_in least most (negsuc n) = Err out_of_range

abbrev pub number_of : ℕ → ℕ → Json → Result ℕ ℕ
number_of least most value = typed as_int value >>= number_in least most

unfoldable pub number_at : List ℕ → ℕ → ℕ → ℕ → Object → Result ℕ BadSetting
number_at key least most standing given =
    at_key key (or_standing standing (number_of least most) (get_of key given))

-- a colour has four bytes
unfoldable pub color_at : List ℕ → ℕ → Object → Result ℕ BadSetting
color_at key standing given = number_at key 0 4294967295 standing given

-- a side, a square or a bar has 1 to 4096 pixels
unfoldable pub side_at : List ℕ → ℕ → Object → Result ℕ BadSetting
side_at key standing given = number_at key 1 4096 standing given

-- a speed is −64 to 64 pixels in a frame
abbrev pub speed_of : Json → Result ℤ ℕ
speed_of value = typed as_int value >>= in_range (negsuc 63) (pos 64)

unfoldable pub speed_at : List ℕ → ℤ → Object → Result ℤ BadSetting
speed_at key standing given = at_key key (or_standing standing speed_of (get_of key given))

-- a text, where the key is there
unfoldable pub text_at : List ℕ → Object → Result (Option (List ℕ)) BadSetting
text_at key given = at_key key (opt_in as_text (get_of key given))
