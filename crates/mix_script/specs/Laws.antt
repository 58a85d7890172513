-- What the table of lines promises: lines and actions stand one to one.
use Rattle.std.specs.Prelude.{◌≡◌, ℕ, ◌≤◌, ◌<◌, List, length, slice_index, Ok, false, ⊤}
use Rattle.std.specs.List.{list_any}
use Rattle.std.specs.Str.{IsUtf8}
use Rattle.mix_model.specs.declared.action.Action.{Action}
use Rattle.mix_model.specs.declared.action.Action.TheVariants.{Arrive, Hear, Poll, BatchNext}
use Rattle.mix_model.specs.declared.action.Action.TheVariants.{Leave, VideoTick, AudioTick}
use Rattle.mix_model.specs.declared.action.Action.TheVariants.{FrameDone, Destroy}
use Rattle.mix_model.specs.declared.message.Message.{Message}
use Rattle.mix_model.specs.declared.message.Message.TheVariants.{Text, Binary}
use Rattle.mix_script.specs.Escapes.{is_line_feed}
use Rattle.mix_script.specs.Lines.{line_text, action_of}
use Rattle.mix_script.specs.Numbers.{greatest_connection, greatest_frame}

-- every item is a byte
abbrev pub AreBytes : List ℕ → Type 0
AreBytes bytes = (i : ℕ) → slice_index bytes i < 256

-- what a connection can say: a text is in UTF-8
abbrev pub IsSaid : Message → Type 0
IsSaid (Text text) = IsUtf8 text
IsSaid (Binary bytes) = AreBytes bytes

-- what every action of the program is: its numbers and bytes are in the range of their types
abbrev pub InRange : Action → Type 0
InRange (Arrive challenge) = (length challenge ≡ 32) × AreBytes challenge
InRange (Hear conn message) = (conn ≤ greatest_connection) × IsSaid message
InRange (Poll conn) = conn ≤ greatest_connection
InRange (BatchNext conn) = conn ≤ greatest_connection
InRange (Leave conn) = conn ≤ greatest_connection
InRange VideoTick = ⊤
InRange AudioTick = ⊤
InRange (FrameDone number) = number ≤ greatest_frame
InRange Destroy = ⊤

-- the line of an action stands for that action
abbrev pub LinesReadBack : Type 0
LinesReadBack = (action : Action) → InRange action → action_of (line_text action) ≡ Ok action

-- a line that stands for an action is the line of that action
abbrev pub ActionsWriteBack : Type 0
ActionsWriteBack = (line : List ℕ) (action : Action) → action_of line ≡ Ok action →
    line_text action ≡ line

-- what a line stands for is in range
abbrev pub LinesAreInRange : Type 0
LinesAreInRange = (line : List ℕ) (action : Action) → action_of line ≡ Ok action → InRange action

-- a line holds no line feed, so lines that follow one another can be told apart
abbrev pub LinesHoldNoLineFeed : Type 0
LinesHoldNoLineFeed = (action : Action) → InRange action →
    list_any is_line_feed (line_text action) ≡ false
