-- What one step of the mixer answers and leaves.
use Rattle.std.specs.Prelude.{◌≡◌, ℕ, false, List, [], ◌++◌, All, map, Option, Some, None}
use Rattle.std.specs.Prelude.{IsTrue, is_some, Result, Ok, Err}
use Rattle.mix_audience.specs.Acting.{taken_by}
use Rattle.mix_audience.specs.Listeners.{Listener, listener_at, waiting_for}
use Rattle.mix_base.specs.declared.no_memory.NoMemory.{NoMemory}
use Rattle.mix_events.specs.Sayings.{IsSayable}
use Rattle.mix_model.specs.declared.draw.Shot.{Shot}
use Rattle.mix_events.specs.declared.said.Said.{Said}
use Rattle.mix_events.specs.declared.said.Said.TheVariants.{Event as OfEvent, Identified}
use Rattle.mix_model.specs.declared.voice.Voice.{Voice}
use Rattle.mix_model.specs.State.{StudioState}
use Rattle.mix_session.specs.declared.heard.Heard.{Heard}
use Rattle.mix_session.specs.declared.heard.Heard.TheVariants.{Say, Ask, Batch, Close}
use Rattle.mix_studio.specs.Shots.{Shows}
use Rattle.mix_engine.specs.declared.heading.Heading.{Heading}
use Rattle.mix_engine.specs.declared.heading.Heading.TheVariants as heading
use Rattle.mix_engine.specs.declared.step_answer.StepAnswer.{StepAnswer}
use Rattle.mix_engine.specs.Answers.{Sounds}
use Rattle.mix_engine.specs.Connections.{conn_at}
use Rattle.mix_engine.specs.Headings.{is_unbuilt}
use Rattle.mix_engine.specs.Mixer.{Connection}
use Rattle.mix_engine.specs.Mixings.{Mixed, mixed_after}
use Rattle.mix_engine.specs.Outcomes.{Outcome, told_of}
use Rattle.mix_engine.specs.Step.{acting}

-- who acts is told what waits for it, then the events of its action that it takes, and then what is
-- said
abbrev pub told_to : ℕ → Mixed → Outcome → List Said
told_to conn m o = map OfEvent (waiting_for conn m.listeners
    ++ taken_by conn m.listeners (told_of m.mixer o)) ++ o.said

-- what is told with a reply
abbrev pub speech : Heading → Mixed → Outcome → List Said
speech (heading.Told conn) m o = told_to conn m o
speech (heading.Closed conn code) m o = told_to conn m o
speech _ m o = []

-- a frame has a shot of the studio in which it is taken, and nothing else has one
abbrev pub HasShot : Heading → StudioState → Option Shot → Type 0
HasShot (heading.Frame number recording) found None = ⊥
HasShot (heading.Frame number recording) found (Some shot) = Shows found number shot
HasShot _ found shot = shot ≡ None

-- a block has the voices of the studio as it was found, and nothing else has any
abbrev pub HasVoices : Heading → StudioState → Option (List Voice) → Type 0
HasVoices (heading.Block number recording) found None = ⊥
HasVoices (heading.Block number recording) found (Some voices) = Sounds found number voices
HasVoices _ found voices = voices ≡ None

-- the reply can be made of it: a frame has its shot, and a block its voices
abbrev pub IsComplete : Heading → Option Shot → Option (List Voice) → Type 0
IsComplete (heading.Frame number recording) shot voices = IsTrue (is_some shot)
IsComplete (heading.Block number recording) shot voices = IsTrue (is_some voices)
IsComplete _ shot voices = Unit {0}

-- an answer from which a reply is made: one of an action that is built, whole, and each text of it can
-- be said
pub record IsReady (answer : StepAnswer) : Type 0 where
  pub built : is_unbuilt answer.heading ≡ false
  pub complete : IsComplete answer.heading answer.shot answer.voices
  pub sayable : All IsSayable answer.said.items

-- an answer that says this under a heading, and has neither a shot nor voices
pub record Says (answer : StepAnswer) (reply : Heading) (items : List Said) : Type 0 where
  pub heading : answer.heading ≡ reply
  pub said : answer.said.items ≡ items
  pub shot : answer.shot ≡ None
  pub voices : answer.voices ≡ None

-- a heading with which nothing is told, and which no part goes with
abbrev pub IsUntold : Heading → Type 0
IsUntold heading.Full = Unit {0}
IsUntold (heading.Gone conn) = Unit {0}
IsUntold heading.NoFrame = Unit {0}
IsUntold heading.NoSuchFrame = Unit {0}
IsUntold _ = ⊥

-- a step answers what the outcome says and tells, shows the studio as it was found, and leaves what the
-- outcome leaves
pub record Stepped (m m' : Mixed) (answer : StepAnswer) (o : Outcome) : Type 0 where
  pub heading : answer.heading ≡ o.heading
  pub said : answer.said.items ≡ speech o.heading m o
  pub shot : HasShot o.heading m.mixer.studio answer.shot
  pub voices : HasVoices o.heading m.mixer.studio answer.voices
  pub complete : IsComplete answer.heading answer.shot answer.voices
  pub sayable : All IsSayable answer.said.items
  pub state : m' ≡ mixed_after m o

-- the same, or there was no memory, and nothing is done
abbrev pub Steps : Result StepAnswer NoMemory → Mixed → Mixed → Outcome → Type 0
Steps (Ok answer) m m' o = Stepped m m' answer o
Steps (Err fault) m m' o = m' ≡ m

-- a connection that is open and isn't cut
pub record IsOpen (m : Mixed) (conn : ℕ) : Type 0 where
  pub one : Listener
  pub found : listener_at conn m.listeners ≡ Some one
  pub uncut : one.cut ≡ false

-- what is said at once is Identified, and a request has an id
abbrev pub IsPlain : Heard → Type 0
IsPlain (Say said mask) = said ≡ Identified
IsPlain (Ask ask) = IsTrue (is_some ask.id)
IsPlain (Batch batch) = Unit {0}
IsPlain (Close code) = Unit {0}

-- a connection that isn't open, or is cut, is answered without its action; else nothing is done yet
abbrev pub StepsWithout : Result (Option StepAnswer) NoMemory → Mixed → Mixed → ℕ → Type 0
StepsWithout (Ok (Some answer)) m m' conn = (act : Connection → Outcome) →
    Stepped m m' answer (acting m.mixer conn (conn_at conn m.mixer.conns) act)
StepsWithout (Ok None) m m' conn = (m' ≡ m) × IsOpen m conn
StepsWithout (Err fault) m m' conn = m' ≡ m
