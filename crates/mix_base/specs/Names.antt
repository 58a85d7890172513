-- Which bytes are the name of a source.
use Rattle.std.specs.Prelude.{ℕ, Bool, List, length, ◌==◌, ◌&&◌, ◌||◌, not, nat_lt}
use Rattle.std.specs.Prelude.{Option, Some, None, if◌then◌else◌}
use Rattle.std.specs.List.{list_any}
use Rattle.std.specs.Str.{is_utf8}
use Rattle.mix_base.specs.declared.name.NameFault.{NameFault}
use Rattle.mix_base.specs.declared.name.NameFault.TheVariants.{Empty, Long, NotUtf8, Control}

-- a byte that no name has: those below the space, and the one that deletes
abbrev pub is_control : ℕ → Bool
is_control b = nat_lt b 32 || (b == 127)

abbrev pub is_empty : List ℕ → Bool
is_empty bytes = length bytes == 0

-- a name has at most 256 bytes
abbrev pub is_long : List ℕ → Bool
is_long bytes = nat_lt 256 (length bytes)

abbrev pub has_control : List ℕ → Bool
has_control bytes = list_any is_control bytes

-- why bytes are no name, if they are none: the first cause that holds
abbrev pub name_fault : List ℕ → Option NameFault
name_fault bytes =
    if is_empty bytes then Some Empty
    else (if is_long bytes then Some Long
    else (if not (is_utf8 bytes) then Some NotUtf8
    else (if has_control bytes then Some Control else None)))

-- a name is a text of 1 to 256 bytes in UTF-8 without control bytes
abbrev pub is_name : List ℕ → Bool
is_name bytes =
    not (is_empty bytes) && not (is_long bytes) && is_utf8 bytes && not (has_control bytes)
