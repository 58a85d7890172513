-- What the definitions promise of the sound that a run writes.
use Rattle.std.specs.Prelude.{◌≡◌, ℕ, List, [], ◌∷◌, Option}
use Rattle.mix_model.specs.declared.action.Action.{Action}
use Rattle.mix_model.specs.declared.action.Entry.{Entry}
use Rattle.mix_model.specs.declared.voice.Voice.{Voice}
use Rattle.mix_model.specs.Sounds.{mixed}
use Rattle.mix_model.specs.Voices.{voices_in}
use Rattle.mix_events.specs.declared.reply.Answer.{Answer}
use Rattle.mix_events.specs.declared.reply.Reply.TheVariants as reply
use Rattle.mix_script.specs.Output.{block_line}
use Rattle.mix_script.specs.Writing.{joined}
use Rattle.mix_engine.specs.declared.heading.Heading.TheVariants.{Block}
use Rattle.mix_engine.specs.Answers.{Agrees, answer_to, state_after}
use Rattle.mix_engine.specs.Mixer.{Mixer}
use Rattle.mix_program.specs.Output.{lines_to}

-- the voices of an answer that agrees with an entry sound like those of the studio that the entries
-- before it left
abbrev pub AnswersSoundAsFound : Type 0
AnswersSoundAsFound = (start : Mixer) (journal : List Entry) (action : Action) (answer : Answer)
    (number : ℕ) (voices : List Voice) (recording : Option ℕ) →
    Agrees answer (answer_to start journal action) →
    answer.reply ≡ reply.Block number voices recording →
    mixed voices number ≡ mixed (voices_in (state_after start journal).studio) number

-- the line of a block at an entry has the sound of the voices of that studio
abbrev pub LinesSoundAsFound : Type 0
LinesSoundAsFound = (start : Mixer) (journal : List Entry) (action : Action) (number : ℕ)
    (recording : Option ℕ) →
    (answer_to start journal action).heading ≡ Block number recording →
    lines_to (answer_to start journal action)
    ≡ joined (block_line number (mixed (voices_in (state_after start journal).studio) number) ∷ [])
