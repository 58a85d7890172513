-- Bytes as digits of base sixteen (RFC 4648), in lower case.
use Rattle.std.specs.Prelude.{ℕ, Bool, ◌==◌, ◌&&◌, ◌||◌, nat_le, List}
use Rattle.std.specs.Prelude.{Option, Some, None, if◌then◌else◌}
use Rattle.std.specs.List.{list_all}
use Rattle.std.specs.Result.{result_ok}
use Rattle.hex.specs.Hex.{decode_of, decode_sized}

-- a digit of base sixteen in lower case
abbrev pub is_lower_digit : ℕ → Bool
is_lower_digit b = (nat_le 48 b && nat_le b 57) || (nat_le 97 b && nat_le b 102)

-- the bytes that two digits each write, where all digits are in lower case
abbrev pub bytes_of_digits : List ℕ → Option (List ℕ)
bytes_of_digits digits =
    if list_all is_lower_digit digits then result_ok (decode_of digits) else None

abbrev pub is_zero : ℕ → Bool
is_zero b = b == 0

-- thirty-two zero bytes stand for no challenge
abbrev pub is_unset : List ℕ → Bool
is_unset challenge = list_all is_zero challenge

abbrev pub unless_unset : Option (List ℕ) → Option (List ℕ)
unless_unset None = None
unless_unset (Some challenge) = if is_unset challenge then None else Some challenge

-- the challenge that sixty-four digits write, which aren't all zero
abbrev pub challenge_of_digits : List ℕ → Option (List ℕ)
challenge_of_digits digits =
    if list_all is_lower_digit digits
    then unless_unset (result_ok (decode_sized digits 32)) else None
