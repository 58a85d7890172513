-- Numbers as they stand in a line.
use Rattle.std.specs.Prelude.{ℕ, Bool, ◌==◌, ◌&&◌, not, nat_lt, nat_le, List, length, slice_index}
use Rattle.std.specs.Prelude.{Option, Some, None, if◌then◌else◌}
use Rattle.std.specs.Char.{is_ascii_digit}
use Rattle.std.specs.List.{list_all}
use Rattle.std.specs.Str.Parse.{digits_value}

-- a zero with digits after it
abbrev pub has_needless_zero : List ℕ → Bool
has_needless_zero digits = slice_index digits 0 == 48 && nat_lt 1 (length digits)

-- a number is one digit or more, without needless zeros
abbrev pub is_number : List ℕ → Bool
is_number digits =
    nat_lt 0 (length digits) && list_all is_ascii_digit digits && not (has_needless_zero digits)

-- the number that the digits write, where it isn't above the greatest one
abbrev pub number_up_to : ℕ → List ℕ → Option ℕ
number_up_to greatest digits =
    if is_number digits && nat_le (digits_value 10 digits) greatest
    then Some (digits_value 10 digits) else None

-- the greatest number of a connection, and of a frame
abbrev pub greatest_connection : ℕ
greatest_connection = 4294967295

abbrev pub greatest_frame : ℕ
greatest_frame = 18446744073709551615
