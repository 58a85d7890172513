-- The lines of a script: each stands for one action, and each action has one line.
use Rattle.std.specs.Prelude.{ℕ, ◌+◌, Bool, List, ◌++◌, take, drop, position, ◌==◌}
use Rattle.std.specs.Prelude.{Option, Some, None, Result, Ok, Err, if◌then◌else◌, codes, decimal}
use Rattle.std.specs.Prelude.{replicate}
use Rattle.std.specs.Str.{bytes_eq, is_utf8}
use Rattle.hex.specs.Hex.{encode_lower}
use Rattle.mix_model.specs.declared.action.Action.{Action}
use Rattle.mix_model.specs.declared.action.Action.TheVariants.{Arrive, Hear, Poll, BatchNext}
use Rattle.mix_model.specs.declared.action.Action.TheVariants.{Leave, VideoTick, AudioTick}
use Rattle.mix_model.specs.declared.action.Action.TheVariants.{FrameDone, Destroy}
use Rattle.mix_model.specs.declared.message.Message.{Message}
use Rattle.mix_model.specs.declared.message.Message.TheVariants.{Text, Binary}
use Rattle.mix_script.specs.declared.bad_line.BadLine.{BadLine}
use Rattle.mix_script.specs.declared.bad_line.BadLine.TheVariants.{Form, Text as NotText}
use Rattle.mix_script.specs.Escapes.{escaped, unescaped}
use Rattle.mix_script.specs.Hexadecimal.{bytes_of_digits, challenge_of_digits, is_unset}
use Rattle.mix_script.specs.Numbers.{number_up_to, greatest_connection, greatest_frame}

-- the line of what a connection says
abbrev pub said_text : ℕ → Message → List ℕ
said_text conn (Text text) = codes "<c" ++ (decimal conn ++ (codes " " ++ escaped text))
said_text conn (Binary bytes) = codes "#c" ++ (decimal conn ++ (codes " " ++ encode_lower bytes))

-- the line of an arrival: thirty-two zero bytes aren't written
abbrev pub arrival_text : List ℕ → List ℕ
arrival_text challenge =
    if is_unset challenge then codes "+" else codes "+ " ++ encode_lower challenge

-- the table: the line of an action, without its line feed
abbrev pub line_text : Action → List ℕ
line_text (Arrive challenge) = arrival_text challenge
line_text (Hear conn message) = said_text conn message
line_text (Poll conn) = codes "?c" ++ decimal conn
line_text (BatchNext conn) = codes "*c" ++ decimal conn
line_text (Leave conn) = codes "-c" ++ decimal conn
line_text VideoTick = codes "v"
line_text AudioTick = codes "a"
line_text (FrameDone number) = codes "f " ++ decimal number
line_text Destroy = codes "d"

-- the challenge of whoever brings none
abbrev pub no_challenge : List ℕ
no_challenge = replicate 32 0

-- an action, where what it's made of could be read; else the line isn't in the table
abbrev pub or_form : {A : Type 0} → (A → Action) → Option A → Result Action BadLine
or_form make None = Err Form
or_form make (Some value) = Ok (make value)

-- what a text stands for, where it has no other escape
abbrev pub or_text : Option (List ℕ) → Result (List ℕ) BadLine
or_text None = Err NotText
or_text (Some text) = Ok text

abbrev pub in_utf8 : Option (List ℕ) → Result (List ℕ) BadLine
in_utf8 None = Err NotText
in_utf8 (Some text) = if is_utf8 text then Ok text else Err NotText

-- the text that stands in a line: it's in UTF-8, and has no other escape
abbrev pub text_of : List ℕ → Result (List ℕ) BadLine
text_of written = in_utf8 (unescaped written)

abbrev pub heard_as : (List ℕ → Message) → ℕ → Result (List ℕ) BadLine → Result Action BadLine
heard_as message conn (Ok bytes) = Ok (Hear conn (message bytes))
heard_as message conn (Err fault) = Err fault

abbrev pub text_heard : ℕ → List ℕ → Result Action BadLine
text_heard conn written = heard_as Text conn (text_of written)

-- bytes that are heard
abbrev pub binary_heard : ℕ → List ℕ → Result Action BadLine
binary_heard conn digits = or_form (λ bytes. Hear conn (Binary bytes)) (bytes_of_digits digits)

abbrev pub connection_of : List ℕ → Option ℕ
connection_of digits = number_up_to greatest_connection digits

-- what a connection says: a bad number is a bad form, whatever is said
abbrev pub said_by : (ℕ → List ℕ → Result Action BadLine) → Option ℕ → List ℕ →
    Result Action BadLine
said_by heard None said = Err Form
said_by heard (Some conn) said = heard conn said

abbrev pub is_space : ℕ → Bool
is_space b = b == 32

abbrev pub said_after : (ℕ → List ℕ → Result Action BadLine) → List ℕ → Option ℕ →
    Result Action BadLine
said_after heard rest None = Err Form
said_after heard rest (Some at) =
    said_by heard (connection_of (take at rest)) (drop (at + 1) rest)

-- the number of a connection, a space, and what it says
abbrev pub said : (ℕ → List ℕ → Result Action BadLine) → List ℕ → Result Action BadLine
said heard rest = said_after heard rest (position is_space rest)

-- a line begins with two bytes
abbrev pub begins : List ℕ → List ℕ → Bool
begins head line = bytes_eq (take 2 line) head

-- the table of the lines of a connection
abbrev pub connection_line : List ℕ → Result Action BadLine
connection_line line =
    if begins (codes "<c") line then said text_heard (drop 2 line)
    else (if begins (codes "#c") line then said binary_heard (drop 2 line)
    else (if begins (codes "?c") line then or_form Poll (connection_of (drop 2 line))
    else (if begins (codes "*c") line then or_form BatchNext (connection_of (drop 2 line))
    else (if begins (codes "-c") line then or_form Leave (connection_of (drop 2 line))
    else Err Form))))

-- the table of the lines of no connection that have something after the sign
abbrev pub lone_line : List ℕ → Result Action BadLine
lone_line line =
    if begins (codes "+ ") line then or_form Arrive (challenge_of_digits (drop 2 line))
    else (if begins (codes "f ") line
    then or_form FrameDone (number_up_to greatest_frame (drop 2 line))
    else connection_line line)

-- the table of lines: which action a line without its line feed stands for
abbrev pub action_of : List ℕ → Result Action BadLine
action_of line =
    if bytes_eq line (codes "+") then Ok (Arrive no_challenge)
    else (if bytes_eq line (codes "v") then Ok VideoTick
    else (if bytes_eq line (codes "a") then Ok AudioTick
    else (if bytes_eq line (codes "d") then Ok Destroy
    else lone_line line)))
