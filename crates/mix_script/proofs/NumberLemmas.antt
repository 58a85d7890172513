-- Numbers as they stand in a line.
use Rattle.std.proofs.Common.{◌≡◌, ℕ, ◌+◌, ◌^◌, ◌<◌, ◌≤◌, List, [], ◌∷◌, length, get_or, Bool, true, false, refl, ap, ◌∙◌, arith, rules, lt-ltb}
use Rattle.std.specs.Prelude.{Result, Ok, Err, Option, Some, None}
use Rattle.std.specs.Char.{is_ascii_digit}
use Rattle.std.specs.List.{list_all}
use Rattle.std.specs.Option.{SomeIff}
use Rattle.std.specs.Result.{OkIff, result_ok}
use Rattle.std.specs.Str.{IsAscii, IsUtf8}
use Rattle.std.specs.Str.Parse.{digits_value, ParsesUnsigned}
use Rattle.std.proofs.lemmas.Bool.{and_parts, cases_lt}
use Rattle.std.proofs.lemmas.Str.{IsUtf8-from_ascii}
use Rattle.std.proofs.lemmas.Str.Ascii.{IsAscii-nil, IsAscii-cons}
use Rattle.std.proofs.lemmas.Str.Parse.{IsNumeralModel, numerals_by_value, parse_digits}
use Rattle.std.proofs.Common.{◌/◌, ◌%◌, decimal, length-append}
use Rattle.std.proofs.lemmas.Fmt.{decimal_step, decimal_digit, decimal_nonempty, digits_decimal, digits_value-decimal, decimal-digits_value, first_decimal}
use Rattle.std.proofs.Common.{inl, inr, ne_eqb, le-leb}
use Rattle.std.proofs.lemmas.Bool.{leb-true}
use Rattle.std.specs.Prelude.{nat_le, if◌then◌else◌}
use Rattle.std.specs.Prelude.{nat_lt, not, ◌&&◌}
use Rattle.std.proofs.lemmas.Bool.{ltb-true}
use Rattle.mix_script.specs.Numbers.{is_number, has_needless_zero, number_up_to}

-- the test of digits
abbrev pub AreDigits : List ℕ → Type 0
AreDigits digits = list_all is_ascii_digit digits ≡ true

pub own : IsNumeralModel AreDigits (digits_value 10)
own = numerals_by_value AreDigits (search rules)

not-true : (b : Bool) → not b ≡ true → b ≡ false
not-true true h = cc
not-true false h = refl

-- what a number is
pub number_parts : (digits : List ℕ) → is_number digits ≡ true
    → (0 < length digits) × AreDigits digits × (has_needless_zero digits ≡ false)
number_parts digits h =
    let outer = and_parts (nat_lt 0 (length digits) && list_all is_ascii_digit digits) (not (has_needless_zero digits)) h in
    let inner = and_parts (nat_lt 0 (length digits)) (list_all is_ascii_digit digits) outer.0 in
    (ltb-true 0 (length digits) inner.0, inner.1, not-true (has_needless_zero digits) outer.1)

ascii_digits : (digits : List ℕ) → AreDigits digits → IsAscii digits
ascii_digits [] h = IsAscii-nil
ascii_digits (b ∷ rest) h =
    let parts = and_parts (is_ascii_digit b) (list_all is_ascii_digit rest) h in
    let low : b < 128 = grind arith in
    IsAscii-cons b rest low (ascii_digits rest parts.1)

-- digits are a text
pub utf8_digits : (digits : List ℕ) → AreDigits digits → IsUtf8 digits
utf8_digits digits h = IsUtf8-from_ascii digits (ascii_digits digits h)

some_iff : {E : Type 0} (r : Result ℕ E) (n v : ℕ) → 0 < n → OkIff r ((0 < n) × (v < 2 ^ 64)) v
    → SomeIff (result_ok r) (v < 2 ^ 64) v
some_iff (Ok x) n v some h = (h.0.1, h.1)
some_iff (Err e) n v some h = λ below. h (some, below)

-- what a text of digits is parsed as
pub value_read : {E : Type 0} (digits text : List ℕ) (r : Result ℕ E) (o : Option ℕ)
    → is_number digits ≡ true → text ≡ digits → ParsesUnsigned 64 10 text r → o ≡ result_ok r
    → SomeIff o (digits_value 10 digits < 2 ^ 64) (digits_value 10 digits)
value_read digits text r o h is parsed same =
    let parts = number_parts digits h in
    rw same (some_iff r (length digits) (digits_value 10 digits) parts.0
    (parse_digits own 64 digits r (rw is at parsed) parts.1))

-- a number of ten or more has one digit more than its tenth
pub length-tenth : (n : ℕ) → 10 ≤ n → n < 2 ^ 64 → length (decimal n) ≡ length (decimal (n / 10)) + 1
length-tenth n big fits =
    ap length (decimal_step n big fits) ∙ length-append (decimal (n / 10)) ((48 + n % 10) ∷ [])

no_needless_zero : (n : ℕ) → n < 2 ^ 64 → has_needless_zero (decimal n) ≡ false
no_needless_zero n fits = elim (cases_lt 0 n) [
  | inl some ↦
      let first = first_decimal n some fits in
      rw (ne_eqb (get_or (decimal n) 0 0) 48 (λ e. omega arith)) refl
  | inr none ↦
      let zero : n ≡ 0 = omega arith in
      rw (zero, decimal_digit 0 (omega arith)) refl
]

-- the decimal text of a number is a number
is_number-decimal : (n : ℕ) → n < 2 ^ 64 → is_number (decimal n) ≡ true
is_number-decimal n fits =
    let some = decimal_nonempty n fits in
    let digits : list_all is_ascii_digit (decimal n) ≡ true = digits_decimal own n fits in
    rw (lt-ltb 0 (length (decimal n)) some, digits, no_needless_zero n fits) refl

-- and it's read back
pub number-read : (greatest n : ℕ) → n ≤ greatest → greatest < 2 ^ 64 → number_up_to greatest (decimal n) ≡ Some n
number-read greatest n most fits =
    let small : n < 2 ^ 64 = omega arith in
    rw (is_number-decimal n small, digits_value-decimal own n small, le-leb n greatest most) refl

one_zero : (digits : List ℕ) → has_needless_zero digits ≡ false → get_or digits 0 0 ≡ 48 → 0 < length digits → length digits ≡ 1
one_zero digits h zero some = elim (cases_lt 1 (length digits)) [
  | inl more ↦ cc (rw (zero, lt-ltb 1 (length digits) more) at h)
  | inr one ↦ omega arith
]

tested : (test : Bool) (n m : ℕ) → (if test then Some n else None) ≡ Some m → (test ≡ true) × (n ≡ m)
tested true n m h = (refl, cc)
tested false n m h = cc h

-- digits that are read are the decimal text of their number
pub number-written : (greatest : ℕ) (digits : List ℕ) (n : ℕ) → greatest < 2 ^ 64
    → number_up_to greatest digits ≡ Some n → (decimal n ≡ digits) × (n ≤ greatest)
number-written greatest digits n fits h =
    let t = tested (is_number digits && nat_le (digits_value 10 digits) greatest) (digits_value 10 digits) n h in
    let both = and_parts (is_number digits) (nat_le (digits_value 10 digits) greatest) t.0 in
    let parts = number_parts digits both.0 in
    let most : digits_value 10 digits ≤ greatest = leb-true (digits_value 10 digits) greatest both.1 in
    let back = decimal-digits_value own digits parts.1 parts.0 (λ zero. one_zero digits parts.2 zero parts.0) (omega arith) in
    rw (← t.1) (back, most)
