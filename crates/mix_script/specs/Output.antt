-- What is written for an answer, line by line.
use Rattle.std.specs.Prelude.{ℕ, List, [], ◌∷◌, ◌++◌, map, codes, decimal}
use Rattle.std.specs.Prelude.{Option, Some, None, IsTrue}
use Rattle.mix_model.specs.declared.picture.Picture.{Picture}
use Rattle.mix_model.specs.declared.picture.Block.{Block}
use Rattle.mix_model.specs.Pictures.{is_picture}
use Rattle.mix_model.specs.Sounds.{is_block}
use Rattle.mix_events.specs.declared.said.Said.{Said}
use Rattle.mix_events.specs.declared.reply.Reply.{Reply}
use Rattle.mix_events.specs.declared.reply.Reply.TheVariants as reply
use Rattle.mix_events.specs.Texts.{said_text}
use Rattle.mix_script.specs.declared.shown.Shown.{Shown}
use Rattle.mix_script.specs.declared.shown.Shown.TheVariants as shows
use Rattle.mix_script.specs.Escapes.{escaped}
use Rattle.mix_script.specs.PictureText.{picture_text}
use Rattle.mix_script.specs.BlockText.{block_text}

-- a line of a number: a mark before it, a text behind it, and the line feed
abbrev pub numbered : List ℕ → ℕ → List ℕ → List ℕ
numbered mark number text = mark ++ (decimal number ++ (text ++ codes "\n"))

-- the line of one text that a connection is told: a backslash in it is written twice
abbrev pub text_line : ℕ → Said → List ℕ
text_line conn said = numbered (codes ">c") conn (codes " " ++ escaped (said_text said))

-- the line of a close with its code
abbrev pub close_line : ℕ → ℕ → List ℕ
close_line conn code = numbered (codes "!c") conn (codes " " ++ decimal code)

-- the lines of all that a connection is told, and that of its close, where it is closed
abbrev pub said_lines : ℕ → List Said → Option ℕ → List (List ℕ)
said_lines conn said None = map (text_line conn) said
said_lines conn said (Some code) = map (text_line conn) said ++ close_line conn code ∷ []

-- the line of a connection that isn't open, and of one that went
abbrev pub gone_line : ℕ → List ℕ
gone_line conn = numbered (codes "!c") conn (codes " gone")

abbrev pub left_line : ℕ → List ℕ
left_line conn = numbered (codes "-c") conn []

-- the line of a frame with its picture, and of a block with its sound
abbrev pub frame_line : ℕ → Picture → List ℕ
frame_line number picture = numbered (codes "v ") number (picture_text picture)

abbrev pub block_line : ℕ → Block → List ℕ
block_line number block = numbered (codes "a ") number (block_text block)

-- the line of a frame that was given back
abbrev pub given_back_line : ℕ → List ℕ
given_back_line number = numbered (codes "f ") number []

-- the line of a row that was destroyed
abbrev pub destroyed_line : ℕ → List ℕ
destroyed_line serial = numbered (codes "d ") serial []

-- the lines of what is refused: no more connections, too many frames in flight, no frame of that
-- number, and no row that dies
abbrev pub full_line : List ℕ
full_line = codes "+ full\n"

abbrev pub no_frame_line : List ℕ
no_frame_line = codes "v full\n"

abbrev pub not_given_back_line : List ℕ
not_given_back_line = codes "f none\n"

abbrev pub nothing_line : List ℕ
nothing_line = codes "d -\n"

-- the text of what is shown
abbrev pub shown_text : Shown → List ℕ
shown_text shows.Nothing = []
shown_text (shows.Picture picture) = picture_text picture
shown_text (shows.Block block) = block_text block

-- the lines of a reply: a line for each text that is told and for a close, and one line for each
-- other kind. A reply that tells nothing and closes nothing has none
abbrev pub reply_lines : Reply → Shown → List (List ℕ)
reply_lines reply.Full shown = full_line ∷ []
reply_lines (reply.Gone conn) shown = gone_line conn ∷ []
reply_lines (reply.Left conn) shown = left_line conn ∷ []
reply_lines (reply.Told conn said close due) shown = said_lines conn said close
reply_lines (reply.Frame number shot recording) shown =
    numbered (codes "v ") number (shown_text shown) ∷ []
reply_lines reply.NoFrame shown = no_frame_line ∷ []
reply_lines (reply.Block number voices recording) shown =
    numbered (codes "a ") number (shown_text shown) ∷ []
reply_lines (reply.FrameGone number) shown = given_back_line number ∷ []
reply_lines reply.NoSuchFrame shown = not_given_back_line ∷ []
reply_lines (reply.Destroyed serial) shown = destroyed_line serial ∷ []
reply_lines reply.Nothing shown = nothing_line ∷ []

-- what is shown is whole
abbrev pub IsWhole : Shown → Type 0
IsWhole shows.Nothing = Unit {0}
IsWhole (shows.Picture picture) = IsTrue (is_picture picture)
IsWhole (shows.Block block) = IsTrue (is_block block)

-- nothing is shown, or a picture, or a block
abbrev pub ShowsNothing : Shown → Type 0
ShowsNothing shows.Nothing = Unit {0}
ShowsNothing (shows.Picture picture) = ⊥
ShowsNothing (shows.Block block) = ⊥

abbrev pub ShowsPicture : Shown → Type 0
ShowsPicture shows.Nothing = ⊥
ShowsPicture (shows.Picture picture) = Unit {0}
ShowsPicture (shows.Block block) = ⊥

abbrev pub ShowsBlock : Shown → Type 0
ShowsBlock shows.Nothing = ⊥
ShowsBlock (shows.Picture picture) = ⊥
ShowsBlock (shows.Block block) = Unit {0}

-- a picture is shown exactly with a frame, a block of sound exactly with a block, and else nothing
abbrev pub IsShownWith : Reply → Shown → Type 0
IsShownWith reply.Full shown = ShowsNothing shown
IsShownWith (reply.Gone conn) shown = ShowsNothing shown
IsShownWith (reply.Left conn) shown = ShowsNothing shown
IsShownWith (reply.Told conn said close due) shown = ShowsNothing shown
IsShownWith (reply.Frame number shot recording) shown = ShowsPicture shown
IsShownWith reply.NoFrame shown = ShowsNothing shown
IsShownWith (reply.Block number voices recording) shown = ShowsBlock shown
IsShownWith (reply.FrameGone number) shown = ShowsNothing shown
IsShownWith reply.NoSuchFrame shown = ShowsNothing shown
IsShownWith (reply.Destroyed serial) shown = ShowsNothing shown
IsShownWith reply.Nothing shown = ShowsNothing shown
