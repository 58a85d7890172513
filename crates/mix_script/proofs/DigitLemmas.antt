-- Bytes as digits of base sixteen.
use Rattle.std.proofs.Common.{◌≡◌, ℕ, zero, suc, ◌+◌, ◌*◌, ◌/◌, ◌%◌, ◌<◌, ◌==◌, List, [], ◌∷◌, length, Bool, true, false, ◌&&◌, refl, sym, ap, ◌∙◌, arith, inl, inr, subst}
use Rattle.std.specs.Prelude.{Option, Some, None, Result, Ok, Err, ◌||◌, not, slice_index, unwrap_or, replicate}
use Rattle.std.specs.List.{list_all}
use Rattle.std.specs.Result.{result_ok}
use Rattle.std.proofs.lemmas.Bool.{and_parts, cases_Bool, cases_lt, eqb-true}
use Rattle.hex.specs.Hex.{decode_of, decode_pairs, decode_sized, digit_or_error, encode_lower, encode_with, hex_digit_value, lower_digits, pair_value, value_at, ◌>>=◌}
use Rattle.hex.specs.declared.error.FromHexError.{FromHexError}
use Rattle.hex.proofs.HexLemmas.{decode_of-encode_lower, decode_of-ok, decode_of-even, decode_sized-encode_lower, decode_sized-ok, decode_sized-twice, length-encode_with}
use Rattle.mix_script.specs.Hexadecimal.{bytes_of_digits, challenge_of_digits, is_lower_digit, is_unset, is_zero, unless_unset}
use Rattle.mix_script.specs.Laws.{AreBytes}
use Rattle.mix_script.specs.Lines.{arrival_text}

-- thirty-two bytes are sixty-four digits, after a sign and a space, and before a line feed
pub length-arrival : (challenge : List ℕ) → is_unset challenge ≡ false → length challenge ≡ 32
    → 67 ≡ length (arrival_text challenge) + 1
length-arrival challenge set is =
    let digits = length-encode_with lower_digits challenge in
    rw set (omega (arith, digits, is))

-- a test of all numbers below another one
abbrev all_pass : (ℕ → Bool) → ℕ → Bool
all_pass p zero = true
all_pass p (suc n) = p n && all_pass p n

all_pass-at : (p : ℕ → Bool) (n k : ℕ) → all_pass p n ≡ true → k < n → p k ≡ true
all_pass-at p zero k h below = absurd (omega arith)
all_pass-at p (suc n) k h below =
    let parts = and_parts (p n) (all_pass p n) h in
    elim (cases_lt k n) [
      | inl less ↦ all_pass-at p n k parts.1 less
      | inr top ↦
          let is : k ≡ n = omega arith in
          rw is parts.0
    ]

-- the digits that are written are in lower case
written-lower : (d : ℕ) → d < 16 → is_lower_digit (slice_index lower_digits d) ≡ true
written-lower d below = all_pass-at (λ d. is_lower_digit (slice_index lower_digits d)) 16 d refl below

pub digits-lower : (bytes : List ℕ) → AreBytes bytes → list_all is_lower_digit (encode_lower bytes) ≡ true
unfolding encode_with
digits-lower [] h = refl
digits-lower (b ∷ rest) h =
    let fits : b < 256 = h 0 in
    rw (written-lower (b / 16) (omega arith), written-lower (b % 16) (omega arith)) (digits-lower rest (λ k. h (suc k)))

-- bytes are read back
pub bytes-read : (bytes : List ℕ) → AreBytes bytes → bytes_of_digits (encode_lower bytes) ≡ Some bytes
bytes-read bytes h = rw (digits-lower bytes h) (ap result_ok (decode_of-encode_lower bytes h))

-- a digit in lower case is the one that's written for its value
abbrev written_back : ℕ → Bool
written_back a = not (is_lower_digit a) || (slice_index lower_digits (unwrap_or (hex_digit_value a) 99) == a)

lower-small : (a : ℕ) → is_lower_digit a ≡ true → a < 128
lower-small a h = grind arith

or-second : (x y : Bool) → not x || y ≡ true → x ≡ true → y ≡ true
or-second true y h e = h
or-second false y h e = cc e

digit-back : (a v : ℕ) → is_lower_digit a ≡ true → hex_digit_value a ≡ Some v → slice_index lower_digits v ≡ a
digit-back a v lower is =
    let test = all_pass-at written_back 128 a refl (lower-small a lower) in
    let same = or-second (is_lower_digit a) (slice_index lower_digits (unwrap_or (hex_digit_value a) 99) == a) test lower in
    rw is at (eqb-true _ _ same)

-- what an `Ok` after another step shows
bind-ok : {A B : Type 0} (r : Result A FromHexError) (f : A → Result B FromHexError) (y : B)
    → (r >>= f) ≡ Ok y → (x : A) × (r ≡ Ok x) × (f x ≡ Ok y)
bind-ok (Ok x) f y h = (x, refl, h)
bind-ok (Err e) f y h = cc h

value-small : (c v : ℕ) → hex_digit_value c ≡ Some v → v < 16
value-small c v h = grind arith

digit-read : (c i : ℕ) (o : Option ℕ) (v : ℕ) → digit_or_error c i o ≡ Ok v → o ≡ Some v
digit-read c i (Some w) v h = cc h
digit-read c i None v h = cc h

pair-back : (a b va vb byte : ℕ) (rest bs bytes : List ℕ) → is_lower_digit a ≡ true → is_lower_digit b ≡ true
    → hex_digit_value a ≡ Some va → hex_digit_value b ≡ Some vb → va * 16 + vb ≡ byte
    → encode_lower bs ≡ rest → byte ∷ bs ≡ bytes → encode_lower bytes ≡ a ∷ b ∷ rest
unfolding encode_with
pair-back a b va vb byte rest bs bytes la lb ha hb is ih e =
    let sa : va < 16 = value-small a va ha in
    let sb : vb < 16 = value-small b vb hb in
    let high : byte / 16 ≡ va = omega arith in
    let low : byte % 16 ≡ vb = omega arith in
    subst (λ (x : List ℕ). encode_lower x ≡ a ∷ b ∷ rest) e
    (rw (high, low, digit-back a va la ha, digit-back b vb lb hb) (ap (λ t. a ∷ b ∷ t) ih))

pairs-back : (i : ℕ) (digits bytes : List ℕ) → list_all is_lower_digit digits ≡ true
    → decode_pairs i digits ≡ Ok bytes → encode_lower bytes ≡ digits
unfolding decode_pairs encode_with
pairs-back i [] bytes lower h =
    let e : [] ≡ bytes = cc h in rw (← e) refl
pairs-back i (a ∷ []) bytes lower h = cc h
pairs-back i (a ∷ b ∷ rest) bytes lower h =
    let one = and_parts (is_lower_digit a) (list_all is_lower_digit (b ∷ rest)) lower in
    let two = and_parts (is_lower_digit b) (list_all is_lower_digit rest) one.1 in
    let p0 = bind-ok (pair_value a b i) _ bytes h in
    let p1 = bind-ok (value_at a i) _ p0.0 p0.1 in
    let p2 = bind-ok (value_at b (i + 1)) _ p0.0 p1.2 in
    let p3 = bind-ok (decode_pairs (i + 2) rest) _ bytes p0.2 in
    let ih = pairs-back (i + 2) rest p3.0 two.1 p3.1 in
    let byte : p1.0 * 16 + p2.0 ≡ p0.0 = cc p2.2 in
    let all : p0.0 ∷ p3.0 ≡ bytes = cc p3.2 in
    pair-back a b p1.0 p2.0 p0.0 rest p3.0 bytes one.0 two.0
    (digit-read a i (hex_digit_value a) p1.0 p1.1) (digit-read b (i + 1) (hex_digit_value b) p2.0 p2.1)
    byte ih all

decoded-back : (digits bytes : List ℕ) → list_all is_lower_digit digits ≡ true
    → decode_of digits ≡ Ok bytes → (encode_lower bytes ≡ digits) × AreBytes bytes
decoded-back digits bytes lower h =
    let ok = decode_of-ok digits bytes h in
    (pairs-back 0 digits bytes lower (sym (decode_of-even digits ok.0) ∙ h), ok.3)

some-value : (r : Result (List ℕ) FromHexError) (bytes : List ℕ) → result_ok r ≡ Some bytes → r ≡ Ok bytes
some-value (Ok x) bytes h = cc h
some-value (Err e) bytes h = cc h

-- digits that are read are those of their bytes
pub bytes-written : (digits bytes : List ℕ) → bytes_of_digits digits ≡ Some bytes
    → (encode_lower bytes ≡ digits) × AreBytes bytes
bytes-written digits bytes h = elim (cases_Bool (list_all is_lower_digit digits)) [
  | inl lower ↦ decoded-back digits bytes lower (some-value (decode_of digits) bytes (rw lower at h))
  | inr other ↦ cc (rw other at h)
]

-- a challenge is read back
pub challenge-read : (challenge : List ℕ) → length challenge ≡ 32 → AreBytes challenge → is_unset challenge ≡ false
    → challenge_of_digits (encode_lower challenge) ≡ Some challenge
challenge-read challenge len bytes set =
    rw (digits-lower challenge bytes, decode_sized-encode_lower challenge 32 len bytes, set) refl

set-value : (o : Option (List ℕ)) (c : List ℕ) → unless_unset o ≡ Some c → (o ≡ Some c) × (is_unset c ≡ false)
set-value None c h = cc h
set-value (Some x) c h = elim (cases_Bool (is_unset x)) [
  | inl unset ↦ cc (rw unset at h)
  | inr set ↦
      let e : x ≡ c = cc (rw set at h) in
      rw (← e) (refl, set)
]

-- digits that are read are those of their challenge
pub challenge-written : (digits challenge : List ℕ) → challenge_of_digits digits ≡ Some challenge
    → (encode_lower challenge ≡ digits) × (length challenge ≡ 32) × AreBytes challenge × (is_unset challenge ≡ false)
challenge-written digits challenge h = elim (cases_Bool (list_all is_lower_digit digits)) [
  | inl lower ↦
      let value = set-value (result_ok (decode_sized digits 32)) challenge (rw lower at h) in
      let sized = some-value (decode_sized digits 32) challenge value.0 in
      let len = decode_sized-ok digits 32 challenge sized in
      let decoded = sym (decode_sized-twice digits 32 len) ∙ sized in
      let back = decoded-back digits challenge lower decoded in
      let ok = decode_of-ok digits challenge decoded in
      let twice : length digits ≡ 2 * length challenge = ok.2 in
      (back.0, omega arith, back.1, value.1)
  | inr other ↦ cc (rw other at h)
]

-- zero bytes are those of no challenge
zeros : (bytes : List ℕ) → list_all is_zero bytes ≡ true → bytes ≡ replicate (length bytes) 0
zeros [] h = refl
zeros (b ∷ rest) h =
    let parts = and_parts (is_zero b) (list_all is_zero rest) h in
    rw (eqb-true b 0 parts.0) (ap (λ t. 0 ∷ t) (zeros rest parts.1))

pub unset-zeros : (challenge : List ℕ) → length challenge ≡ 32 → is_unset challenge ≡ true
    → replicate 32 0 ≡ challenge
unset-zeros challenge len unset = ap (λ (n : ℕ). replicate n 0) (sym len) ∙ sym (zeros challenge unset)
