-- When an answer agrees with an entry of a history.
use Rattle.std.specs.Prelude.{◌≡◌, ℕ, ◌<◌, ◌^◌, Bool, false, List, [], ◌∷◌, map, length}
use Rattle.std.specs.Prelude.{Some, None, IsTrue}
use Rattle.std.specs.List.{list_all}
use Rattle.std.specs.Option.{option_map_or}
use Rattle.mix_model.specs.declared.action.Action.{Action}
use Rattle.mix_model.specs.declared.action.Entry.{Entry}
use Rattle.mix_events.specs.declared.said.Said.{Said}
use Rattle.mix_events.specs.declared.reply.Reply.{Reply}
use Rattle.mix_events.specs.declared.reply.Reply.TheVariants as reply
use Rattle.mix_events.specs.declared.reply.Answer.{Answer}
use Rattle.mix_model.specs.declared.draw.Shot.{Shot}
use Rattle.mix_model.specs.declared.voice.Voice.{Voice}
use Rattle.mix_model.specs.Sounds.{mixed, block_at}
use Rattle.mix_model.specs.State.{StudioState}
use Rattle.mix_model.specs.Voices.{is_voice}
use Rattle.mix_studio.specs.Shots.{Shows}
use Rattle.mix_engine.specs.declared.heading.Heading.{Heading}
use Rattle.mix_engine.specs.declared.heading.Heading.TheVariants as heading
use Rattle.mix_engine.specs.Mixer.{Mixer}
use Rattle.mix_engine.specs.Connections.{conn_at, first_due}
use Rattle.mix_engine.specs.Outcomes.{Outcome}
use Rattle.mix_engine.specs.Step.{outcome, after, steps}
use Rattle.mix_engine.specs.Told.{Happened, happened, told_at}

-- what happened at each action, from a state on
abbrev pub trace : Mixer → List Action → List Happened
trace s [] = []
trace s (action ∷ actions) =
    happened s (outcome s action) ∷ trace (after s (outcome s action)) actions

abbrev pub actions_of : List Entry → List Action
actions_of journal = map (λ e. e.action) journal

-- the state after a journal
abbrev pub state_after : Mixer → List Entry → Mixer
state_after start journal = steps start (actions_of journal)

-- whether the connection is open, and a request of its oldest batch is due
abbrev pub is_due : Mixer → ℕ → Bool
is_due s conn =
    option_map_or (λ c. first_due s.studio.graph.clock c.batches) (conn_at conn s.conns) false

-- an entry with all that an answer to it says: the studio in which it was found is what a frame shows
-- and what a block sounds like
pub record Answered : Type 0 where
  pub heading : Heading
  pub found : StudioState
  pub told : List Said
  pub due : Bool
  pub stopping : Bool
  pub dying : ℕ

-- what is told at an entry: what its connection is told. Gone, left and full tell nothing, and nothing
-- is told where no connection acts
abbrev pub told_by : Heading → List Happened → Happened → List Said
told_by heading.Full before h = []
told_by (heading.Gone conn) before h = []
told_by (heading.Left conn) before h = []
told_by (heading.Told conn) before h = told_at conn before h
told_by (heading.Closed conn code) before h = told_at conn before h
told_by (heading.Frame number recording) before h = []
told_by heading.NoFrame before h = []
told_by (heading.Block number recording) before h = []
told_by (heading.FrameGone number) before h = []
told_by heading.NoSuchFrame before h = []
told_by (heading.Destroyed serial) before h = []
told_by heading.Nothing before h = []
told_by heading.NotBuilt before h = []

abbrev pub due_after : Heading → Mixer → Bool
due_after (heading.Told conn) s = is_due s conn
due_after _ s = false

abbrev pub answered : Mixer → List Happened → Outcome → Answered
answered s before o = record {
  heading = o.heading;
  found = s.studio;
  told = told_by o.heading before (happened s o);
  due = due_after o.heading (after s o);
  stopping = (after s o).notes.stop;
  dying = length (after s o).studio.graph.dying;
}

-- what the entry after a journal is answered
abbrev pub answer_to : Mixer → List Entry → Action → Answered
answer_to start journal action =
    let s : Mixer = state_after start journal in
    answered s (trace start (actions_of journal)) (outcome s action)

-- voices that can be mixed, and mix to the block of the studio
pub record Sounds (found : StudioState) (number : ℕ) (voices : List Voice) : Type 0 where
  pub early : number < 2 ^ 32
  pub mixable : IsTrue (list_all is_voice voices)
  pub block : mixed voices number ≡ block_at found number

-- the reply says what the entry is answered. A frame has a shot of the studio in which it was taken,
-- and a block has its voices. What isn't built has no reply
abbrev pub Replies : Heading → StudioState → List Said → Bool → Reply → Type 0
Replies heading.Full found told due r = r ≡ reply.Full
Replies (heading.Gone conn) found told due r = r ≡ reply.Gone conn
Replies (heading.Left conn) found told due r = r ≡ reply.Left conn
Replies (heading.Told conn) found told due r = r ≡ reply.Told conn told None due
Replies (heading.Closed conn code) found told due r = r ≡ reply.Told conn told (Some code) due
Replies (heading.Frame number recording) found told due r =
    (shot : Shot) × Shows found number shot × (r ≡ reply.Frame number shot recording)
Replies heading.NoFrame found told due r = r ≡ reply.NoFrame
Replies (heading.Block number recording) found told due r =
    (voices : List Voice) × Sounds found number voices × (r ≡ reply.Block number voices recording)
Replies (heading.FrameGone number) found told due r = r ≡ reply.FrameGone number
Replies heading.NoSuchFrame found told due r = r ≡ reply.NoSuchFrame
Replies (heading.Destroyed serial) found told due r = r ≡ reply.Destroyed serial
Replies heading.Nothing found told due r = r ≡ reply.Nothing
Replies heading.NotBuilt found told due r = ⊥

-- the answer agrees with the entry
pub record Agrees (answer : Answer) (entry : Answered) : Type 0 where
  pub reply : Replies entry.heading entry.found entry.told entry.due answer.reply
  pub stopping : answer.stopping ≡ entry.stopping
  pub dying : answer.dying ≡ entry.dying
