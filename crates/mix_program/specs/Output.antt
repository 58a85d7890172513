-- What a run writes, and how its lines follow from what actions are answered.
use Rattle.std.specs.Prelude.{ℕ, ◌<◌, ◌^◌, List, [], ◌∷◌, ◌++◌, Some, None, IsTrue}
use Rattle.std.specs.List.{list_all}
use Rattle.mix_events.specs.declared.said.Said.{Said}
use Rattle.mix_events.specs.declared.reply.Reply.{Reply}
use Rattle.mix_events.specs.declared.reply.Reply.TheVariants as reply
use Rattle.mix_model.specs.Pictures.{picture_at}
use Rattle.mix_model.specs.Plans.{is_shot, painted}
use Rattle.mix_model.specs.Sounds.{block_at, mixed}
use Rattle.mix_model.specs.State.{StudioState}
use Rattle.mix_model.specs.declared.voice.Voice.{Voice}
use Rattle.mix_model.specs.Voices.{is_voice}
use Rattle.mix_script.specs.declared.shown.Shown.{Shown}
use Rattle.mix_script.specs.declared.shown.Shown.TheVariants as shows
use Rattle.mix_script.specs.Output.{said_lines, gone_line, left_line, frame_line, block_line}
use Rattle.mix_script.specs.Output.{given_back_line, destroyed_line, full_line, no_frame_line}
use Rattle.mix_script.specs.Output.{not_given_back_line, nothing_line, reply_lines}
use Rattle.mix_script.specs.Writing.{joined}
use Rattle.mix_engine.specs.declared.heading.Heading.{Heading}
use Rattle.mix_engine.specs.declared.heading.Heading.TheVariants.{Full, Gone, Left, Told, Closed}
use Rattle.mix_engine.specs.declared.heading.Heading.TheVariants.{Frame, NoFrame, Block}
use Rattle.mix_engine.specs.declared.heading.Heading.TheVariants.{FrameGone, NoSuchFrame}
use Rattle.mix_engine.specs.declared.heading.Heading.TheVariants.{Destroyed, Nothing, NotBuilt}
use Rattle.mix_engine.specs.Answers.{Answered}

-- what a run writes to its two sinks, and the status that it ends with
pub record Written : Type 0 where
  pub lines : List ℕ
  pub tape : List ℕ
  pub status : ℕ

-- lines, and then what comes after them
abbrev pub before : List ℕ → Written → Written
before front rest = record rest { lines = front ++ rest.lines }

-- The lines of what an action is answered: those of its texts, and of a close with its code. A
-- frame is the picture of the studio in which it was found, at the tick of its number, and a block
-- is the sound of that studio. An action that isn't built has none, since a run writes nothing for it.
abbrev pub lines_by : Heading → StudioState → List Said → List (List ℕ)
lines_by Full found told = full_line ∷ []
lines_by (Gone conn) found told = gone_line conn ∷ []
lines_by (Left conn) found told = left_line conn ∷ []
lines_by (Told conn) found told = said_lines conn told None
lines_by (Closed conn code) found told = said_lines conn told (Some code)
lines_by (Frame number recording) found told = frame_line number (picture_at found number) ∷ []
lines_by NoFrame found told = no_frame_line ∷ []
lines_by (Block number recording) found told = block_line number (block_at found number) ∷ []
lines_by (FrameGone number) found told = given_back_line number ∷ []
lines_by NoSuchFrame found told = not_given_back_line ∷ []
lines_by (Destroyed serial) found told = destroyed_line serial ∷ []
lines_by Nothing found told = nothing_line ∷ []
lines_by NotBuilt found told = []

abbrev pub lines_to : Answered → List ℕ
lines_to a = joined (lines_by a.heading a.found a.told)

-- what a reply shows: a shot is painted on this canvas at the tick of its number, and voices are
-- mixed
abbrev pub shown_by : ℕ × ℕ → Reply → Shown
shown_by canvas reply.Full = shows.Nothing
shown_by canvas (reply.Gone conn) = shows.Nothing
shown_by canvas (reply.Left conn) = shows.Nothing
shown_by canvas (reply.Told conn told close due) = shows.Nothing
shown_by canvas (reply.Frame number shot recording) = shows.Picture (painted shot number canvas)
shown_by canvas reply.NoFrame = shows.Nothing
shown_by canvas (reply.Block number voices recording) = shows.Block (mixed voices number)
shown_by canvas (reply.FrameGone number) = shows.Nothing
shown_by canvas reply.NoSuchFrame = shows.Nothing
shown_by canvas (reply.Destroyed serial) = shows.Nothing
shown_by canvas reply.Nothing = shows.Nothing

-- the lines of a reply, with what it shows on this canvas
abbrev pub shown_lines : ℕ × ℕ → Reply → List (List ℕ)
shown_lines canvas r = reply_lines r (shown_by canvas r)

-- voices that can be mixed at this number
pub record CanSound (number : ℕ) (voices : List Voice) : Type 0 where
  pub early : number < 2 ^ 32
  pub mixable : IsTrue (list_all is_voice voices)

-- a reply's shot can be painted at the tick of its number, and its voices can be mixed
abbrev pub IsShowable : Reply → Type 0
IsShowable reply.Full = Unit {0}
IsShowable (reply.Gone conn) = Unit {0}
IsShowable (reply.Left conn) = Unit {0}
IsShowable (reply.Told conn told close due) = Unit {0}
IsShowable (reply.Frame number shot recording) = IsTrue (is_shot number shot)
IsShowable reply.NoFrame = Unit {0}
IsShowable (reply.Block number voices recording) = CanSound number voices
IsShowable (reply.FrameGone number) = Unit {0}
IsShowable reply.NoSuchFrame = Unit {0}
IsShowable (reply.Destroyed serial) = Unit {0}
IsShowable reply.Nothing = Unit {0}
