-- What the text of a number says.
use Rattle.std.proofs.Common.{◌≡◌, ◌∙◌, ◌<◌, ◌≤◌, ◌^◌, ◌++◌, ◌∷◌, ◌==◌, sym, ap, refl, ℕ, ℤ, pos, neg_ℤ, List, [], drop, length, slice_index, true, false, Option, Some, None, option_map, append-nil, lt-ltb, le-leb, arith}
use Rattle.std.specs.Str.Parse.{digits_value, AllDigits}
use Rattle.std.proofs.lemmas.Bool.{ne_eqb}
use Rattle.std.proofs.lemmas.Str.Parse.{digit_from_value}
use Rattle.fast_float.specs.Text.{scan, Parts, digits_of, IsWellFormed}
use Rattle.fast_float.proofs.Writing.{scan-text_of}
use Rattle.serde_json.specs.Data.{Num}
use Rattle.serde_json.specs.Find.{as_i64}
use Rattle.serde_json.specs.Read.{is_integer, number_from, number_of}
use Rattle.mix_json.specs.Reading.{of_number, whole_or_frac}
use Rattle.mix_json.specs.Tokens.{number_seen}

-- ---- the sign

-- a sign stands in front
pub with_sign : (s : List ℕ) (digits : List ℕ) → (slice_index s 0 == 45) ≡ true → digits ≡ drop 1 s → option_map as_i64 (number_from true (scan digits)) ≡ option_map as_i64 (number_of s)
unfolding number_of
with_sign s digits e same = rw (same, e)

-- there is none
pub without_sign : (s : List ℕ) → (slice_index s 0 == 45) ≡ false → option_map as_i64 (number_from false (scan s)) ≡ option_map as_i64 (number_of s)
unfolding number_of
without_sign s e = rw e

-- ---- digits alone

abbrev whole : List ℕ → Parts
whole ds = record { whole = ds; point = false; fraction = []; exponent_negative = false; exponent = []; len = length (ds ++ []) }

scanned : (ds : List ℕ) → AllDigits 10 ds → scan ds ≡ whole ds
scanned ds all =
    let formed : IsWellFormed (whole ds) = record { whole_digits = all; fraction_digits = tt; exponent_digits = tt; no_point = λ _. refl; no_exponent = λ _. refl; len_is = refl } in
    ap scan (sym (append-nil ds)) ∙ scan-text_of (whole ds) formed

integer : (ds : List ℕ) → 0 < length ds → is_integer (whole ds) ≡ true
integer ds some = rw (lt-ltb _ _ some)

value_is : (ds : List ℕ) → digits_of (whole ds) ≡ digits_value 10 ds
value_is ds = ap (digits_value 10) (append-nil ds)

pub digits_alone : (ds : List ℕ) → AllDigits 10 ds → 0 < length ds → digits_value 10 ds < 2 ^ 63 → option_map as_i64 (number_from false (scan ds)) ≡ Some (Some (pos (digits_value 10 ds)))
digits_alone ds all some small =
    let wide : digits_value 10 ds < 2 ^ 64 = omega arith in
    rw (scanned ds all, integer ds some, value_is ds) (rw (lt-ltb _ _ wide) (rw (lt-ltb _ _ small)))

pub digits_with_sign : (ds : List ℕ) → AllDigits 10 ds → 0 < length ds → 0 < digits_value 10 ds → digits_value 10 ds < 2 ^ 63 → option_map as_i64 (number_from true (scan ds)) ≡ Some (Some (neg_ℤ (pos (digits_value 10 ds))))
digits_with_sign ds all some above small =
    let fits : digits_value 10 ds ≤ 2 ^ 63 = omega arith in
    rw (scanned ds all, integer ds some, value_is ds) (rw (lt-ltb _ _ above, le-leb _ _ fits))

-- no digit is a sign
unsigned : (s : List ℕ) → AllDigits 10 s → 0 < length s → (slice_index s 0 == 45) ≡ false
unsigned [] all some = absurd (omega arith)
unsigned (c ∷ cs) all some = ne_eqb _ _ (λ e. omega (arith, digit_from_value c all.0))

-- a text of digits alone is that number
pub short : (s : List ℕ) → 0 < length s → AllDigits 10 s → digits_value 10 s < 2 ^ 63 → option_map as_i64 (number_of s) ≡ Some (Some (pos (digits_value 10 s)))
short s some all small = sym (without_sign s (unsigned s all some)) ∙ digits_alone s all some small

-- ---- what is seen of it

by_number : (o : Option Num) (r : Option (Option ℤ)) → r ≡ option_map as_i64 o → option_map of_number o ≡ option_map whole_or_frac r
by_number None r e = rw e
by_number (Some n) r e = rw e

pub seen_number : (s : List ℕ) (r : Option (Option ℤ)) → r ≡ option_map as_i64 (number_of s) → number_seen s ≡ option_map whole_or_frac r
seen_number s r e = by_number (number_of s) r e
