-- A line holds no line feed.
use Rattle.std.proofs.Common.{◌≡◌, ℕ, ◌<◌, ◌^◌, List, [], ◌∷◌, ◌++◌, decimal, Bool, true, false, refl, arith}
use Rattle.std.specs.Prelude.{◌||◌}
use Rattle.std.specs.Char.{is_ascii_digit}
use Rattle.std.specs.List.{list_all, list_any}
use Rattle.std.proofs.lemmas.Bool.{and_parts}
use Rattle.std.proofs.lemmas.Fmt.{digits_decimal}
use Rattle.hex.specs.Hex.{encode_lower}
use Rattle.mix_model.specs.declared.action.Action.TheVariants.{Arrive, Hear, Poll, BatchNext, Leave, VideoTick, AudioTick, FrameDone, Destroy}
use Rattle.mix_model.specs.declared.message.Message.TheVariants.{Text, Binary}
use Rattle.mix_script.specs.Escapes.{escaped, escaped_byte, is_backslash, is_line_feed}
use Rattle.mix_script.specs.Hexadecimal.{is_lower_digit, is_unset}
use Rattle.mix_script.specs.Laws.{AreBytes, LinesHoldNoLineFeed}
use Rattle.mix_script.specs.Lines.{arrival_text}
use Rattle.mix_script.proofs.DigitLemmas.{digits-lower}
use Rattle.mix_script.proofs.NumberLemmas.{own}

-- no byte is a line feed
abbrev NoFeed : List ℕ → Type 0
NoFeed bytes = list_any is_line_feed bytes ≡ false

or-parts : (x y : Bool) → x || y ≡ false → (x ≡ false) × (y ≡ false)
or-parts false false h = (refl, refl)
or-parts true y h = cc h
or-parts false true h = cc h

no-feed-append : (front text : List ℕ) → NoFeed front → NoFeed text → NoFeed (front ++ text)
no-feed-append [] text h t = t
no-feed-append (b ∷ front) text h t =
    let parts = or-parts (is_line_feed b) (list_any is_line_feed front) h in
    rw parts.0 (no-feed-append front text parts.1 t)

decimal-digits : (digits : List ℕ) → list_all is_ascii_digit digits ≡ true → NoFeed digits
decimal-digits [] h = refl
decimal-digits (d ∷ digits) h =
    let parts = and_parts (is_ascii_digit d) (list_all is_ascii_digit digits) h in
    let other : is_line_feed d ≡ false = grind arith in
    rw other (decimal-digits digits parts.1)

lower-digits : (digits : List ℕ) → list_all is_lower_digit digits ≡ true → NoFeed digits
lower-digits [] h = refl
lower-digits (d ∷ digits) h =
    let parts = and_parts (is_lower_digit d) (list_all is_lower_digit digits) h in
    let other : is_line_feed d ≡ false = grind arith in
    rw other (lower-digits digits parts.1)

number : (n : ℕ) → n < 2 ^ 64 → NoFeed (decimal n)
number n fits = decimal-digits (decimal n) (digits_decimal own n fits)

escaped-byte : (b : ℕ) (mark feed : Bool) → is_backslash b ≡ mark → is_line_feed b ≡ feed → NoFeed (escaped_byte b)
escaped-byte b true feed is_mark is_feed = rw is_mark refl
escaped-byte b false true is_mark is_feed = rw (is_mark, is_feed) refl
escaped-byte b false false is_mark is_feed = rw (is_mark, is_feed) (rw is_feed refl)

escaped-text : (text : List ℕ) → NoFeed (escaped text)
escaped-text [] = refl
escaped-text (b ∷ rest) =
    no-feed-append (escaped_byte b) (escaped rest)
    (escaped-byte b (is_backslash b) (is_line_feed b) refl refl) (escaped-text rest)

arrival : (challenge : List ℕ) (unset : Bool) → AreBytes challenge → is_unset challenge ≡ unset → NoFeed (arrival_text challenge)
arrival challenge true bytes is = rw is refl
arrival challenge false bytes is = rw is (lower-digits (encode_lower challenge) (digits-lower challenge bytes))

pub lines_hold_no_line_feed : LinesHoldNoLineFeed
lines_hold_no_line_feed (Arrive challenge) h = arrival challenge (is_unset challenge) h.1 refl
lines_hold_no_line_feed (Hear conn (Text text)) h =
    no-feed-append (decimal conn) (32 ∷ escaped text) (number conn (omega arith)) (escaped-text text)
lines_hold_no_line_feed (Hear conn (Binary bytes)) h =
    no-feed-append (decimal conn) (32 ∷ encode_lower bytes) (number conn (omega arith))
    (lower-digits (encode_lower bytes) (digits-lower bytes h.1))
lines_hold_no_line_feed (Poll conn) h = number conn (omega arith)
lines_hold_no_line_feed (BatchNext conn) h = number conn (omega arith)
lines_hold_no_line_feed (Leave conn) h = number conn (omega arith)
lines_hold_no_line_feed VideoTick h = refl
lines_hold_no_line_feed AudioTick h = refl
lines_hold_no_line_feed (FrameDone n) h = number n (omega arith)
lines_hold_no_line_feed Destroy h = refl
