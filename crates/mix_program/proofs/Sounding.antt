-- Whose voices a block has.
use Rattle.std.proofs.Common.{◌≡◌, ℕ, List, [], ◌∷◌, Option, Bool, refl, sym, ap, ◌∙◌}
use Rattle.mix_model.specs.declared.action.Action.{Action}
use Rattle.mix_model.specs.declared.action.Entry.{Entry}
use Rattle.mix_model.specs.declared.picture.Block.{Block}
use Rattle.mix_model.specs.declared.voice.Voice.{Voice}
use Rattle.mix_model.specs.Sounds.{block_at, mixed}
use Rattle.mix_model.specs.State.{StudioState}
use Rattle.mix_model.specs.Voices.{voices_in}
use Rattle.mix_events.specs.declared.reply.Answer.{Answer}
use Rattle.mix_events.specs.declared.reply.Reply.{Reply}
use Rattle.mix_events.specs.declared.reply.Reply.TheVariants as reply
use Rattle.mix_events.specs.declared.said.Said.{Said}
use Rattle.mix_script.specs.Output.{block_line}
use Rattle.mix_script.specs.Writing.{joined}
use Rattle.mix_engine.specs.declared.heading.Heading.{Heading}
use Rattle.mix_engine.specs.declared.heading.Heading.TheVariants as heading
use Rattle.mix_engine.specs.Answers.{Agrees, Answered, Replies, answer_to, state_after}
use Rattle.mix_engine.specs.Mixer.{Mixer}
use Rattle.mix_program.specs.Output.{lines_by, lines_to}

-- the block of a studio is that of its voices
block_sounds : (found : StudioState) (number : ℕ) →
    block_at found number ≡ mixed (voices_in found) number
unfolding block_at
block_sounds found number = refl

-- two blocks in one reply have one number and the same voices
same_number : (n m : ℕ) (v w : List Voice) (r s : Option ℕ) →
    reply.Block n v r ≡ reply.Block m w s → n ≡ m
same_number n m v w r s h = cc h

same_voices : (n m : ℕ) (v w : List Voice) (r s : Option ℕ) →
    reply.Block n v r ≡ reply.Block m w s → v ≡ w
same_voices n m v w r s h = cc h

-- the voices of a reply sound like those of the studio that was found
reply_sounds : (o : Heading) (found : StudioState) (told : List Said) (due : Bool) (r : Reply)
    (number : ℕ) (voices : List Voice) (recording : Option ℕ) → Replies o found told due r →
    r ≡ reply.Block number voices recording → mixed voices number ≡ mixed (voices_in found) number
reply_sounds heading.Full found told due r number voices recording h is = cc (sym h ∙ is)
reply_sounds (heading.Gone conn) found told due r number voices recording h is = cc (sym h ∙ is)
reply_sounds (heading.Left conn) found told due r number voices recording h is = cc (sym h ∙ is)
reply_sounds (heading.Told conn) found told due r number voices recording h is = cc (sym h ∙ is)
reply_sounds (heading.Closed conn code) found told due r number voices recording h is =
    cc (sym h ∙ is)
reply_sounds (heading.Frame n taken) found told due r number voices recording h is =
    cc (sym h.2 ∙ is)
reply_sounds heading.NoFrame found told due r number voices recording h is = cc (sym h ∙ is)
reply_sounds (heading.Block n taken) found told due r number voices recording h is =
    let same : reply.Block n h.0 taken ≡ reply.Block number voices recording = sym h.2 ∙ is in
    let number_is : n ≡ number = same_number n number h.0 voices taken recording same in
    let voices_are : h.0 ≡ voices = same_voices n number h.0 voices taken recording same in
    ap (λ (v : List Voice). mixed v number) (sym voices_are) ∙ ap (mixed h.0) (sym number_is)
    ∙ h.1.block ∙ block_sounds found n ∙ ap (mixed (voices_in found)) number_is
reply_sounds (heading.FrameGone n) found told due r number voices recording h is = cc (sym h ∙ is)
reply_sounds heading.NoSuchFrame found told due r number voices recording h is = cc (sym h ∙ is)
reply_sounds (heading.Destroyed serial) found told due r number voices recording h is =
    cc (sym h ∙ is)
reply_sounds heading.Nothing found told due r number voices recording h is = cc (sym h ∙ is)
reply_sounds heading.NotBuilt found told due r number voices recording h is = absurd h

pub answers_sound : (start : Mixer) (journal : List Entry) (action : Action) (answer : Answer)
    (number : ℕ) (voices : List Voice) (recording : Option ℕ) →
    Agrees answer (answer_to start journal action) →
    answer.reply ≡ reply.Block number voices recording →
    mixed voices number ≡ mixed (voices_in (state_after start journal).studio) number
answers_sound start journal action answer number voices recording agrees is =
    let a : Answered = answer_to start journal action in
    reply_sounds a.heading a.found a.told a.due answer.reply number voices recording agrees.reply is

-- and so does the line
pub lines_sound : (start : Mixer) (journal : List Entry) (action : Action) (number : ℕ)
    (recording : Option ℕ) →
    (answer_to start journal action).heading ≡ heading.Block number recording →
    lines_to (answer_to start journal action)
    ≡ joined (block_line number (mixed (voices_in (state_after start journal).studio) number) ∷ [])
lines_sound start journal action number recording is =
    let a : Answered = answer_to start journal action in
    ap (λ (o : Heading). joined (lines_by o a.found a.told)) is
    ∙ ap (λ (b : Block). joined (block_line number b ∷ [])) (block_sounds a.found number)
