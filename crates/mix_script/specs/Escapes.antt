-- A text within a line: a line feed would end the line, so it's written with a backslash.
use Rattle.std.specs.Prelude.{ℕ, Bool, true, false, ◌==◌, ◌||◌, List, [], ◌∷◌}
use Rattle.std.specs.Prelude.{Option, Some, None, if◌then◌else◌, flat_map}
use Rattle.std.specs.Option.{option_map}

-- the backslash and the line feed are the bytes that are written as two
abbrev pub is_backslash : ℕ → Bool
is_backslash b = b == 92

abbrev pub is_line_feed : ℕ → Bool
is_line_feed b = b == 10

abbrev pub is_special : ℕ → Bool
is_special b = is_backslash b || is_line_feed b

-- a backslash is written as two, a line feed as a backslash and `n`, all else as it is
abbrev pub escaped_byte : ℕ → List ℕ
escaped_byte b =
    if is_backslash b then 92 ∷ (92 ∷ [])
    else (if is_line_feed b then 92 ∷ (110 ∷ []) else b ∷ [])

-- a text as it stands in a line
abbrev pub escaped : List ℕ → List ℕ
escaped text = flat_map escaped_byte text

-- what a backslash and this byte stand for
abbrev pub meaning : ℕ → Option ℕ
meaning b =
    if is_backslash b then Some 92 else (if b == 110 then Some 10 else None)

-- a byte before a text, where there are both
abbrev pub put_first : Option ℕ → Option (List ℕ) → Option (List ℕ)
put_first None text = None
put_first (Some b) text = option_map (λ t. b ∷ t) text

-- the text of what is left of an escaped one; the first test says whether a backslash stands
-- before it, which isn't counted yet
abbrev pub unescaped_after : Bool → List ℕ → Option (List ℕ)
unescaped_after true [] = None
unescaped_after false [] = Some []
unescaped_after true (b ∷ rest) = put_first (meaning b) (unescaped_after false rest)
unescaped_after false (b ∷ rest) =
    if is_backslash b then unescaped_after true rest
    else (if is_line_feed b then None else put_first (Some b) (unescaped_after false rest))

-- the text that stands in a line so; there's none where a backslash has another byte after it,
-- or where a line feed stands as it is
abbrev pub unescaped : List ℕ → Option (List ℕ)
unescaped written = unescaped_after false written
