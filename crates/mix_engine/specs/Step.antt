-- The step of the mixer: what each action does and leaves, and the state after a history.
use Rattle.std.specs.Prelude.{ℕ, ◌+◌, Bool, List, [], ◌∷◌, length, nat_lt, nat_le, ◌||◌, ◌==◌, ◌&&◌}
use Rattle.std.specs.Prelude.{Option, Some, None, map, if◌then◌else◌, bit_and}
use Rattle.std.specs.List.{list_any}
use Rattle.mix_base.specs.Limits.{standard}
use Rattle.mix_fanout.specs.Lanes.{is_but}
use Rattle.mix_model.specs.declared.event.Event.{Event}
use Rattle.mix_model.specs.declared.event.Event.TheVariants.{SceneTransitionEnded}
use Rattle.mix_model.specs.declared.words.Transition.TheVariants.{Fade}
use Rattle.mix_model.specs.declared.action.Action.{Action}
use Rattle.mix_model.specs.declared.action.Action.TheVariants.{Arrive, Hear, Poll, BatchNext, Leave}
use Rattle.mix_model.specs.declared.action.Action.TheVariants.{VideoTick, AudioTick, FrameDone}
use Rattle.mix_model.specs.declared.action.Action.TheVariants.{Destroy}
use Rattle.mix_model.specs.State.{GraphState}
use Rattle.mix_model.specs.Program.{advance_program}
use Rattle.mix_model.specs.Recordings.{recording_of}
use Rattle.mix_model.specs.Studio.{has_room, picture_taken, frame_ended, studio_settled}
use Rattle.mix_session.specs.declared.heard.Heard.{Heard}
use Rattle.mix_session.specs.declared.heard.Heard.TheVariants.{Say, Ask, Batch, Close}
use Rattle.mix_session.specs.Hear.{hear}
use Rattle.mix_session.specs.SessionState.{hello}
use Rattle.mix_requests.specs.Programs.{event_if}
use Rattle.mix_engine.specs.declared.heading.Heading.TheVariants.{Full, Gone, Left, Told, Closed}
use Rattle.mix_engine.specs.declared.heading.Heading.TheVariants.{Frame, NoFrame, FrameGone}
use Rattle.mix_engine.specs.declared.heading.Heading.TheVariants.{NoSuchFrame}
use Rattle.mix_engine.specs.Headings.{actor_of, is_unbuilt}
use Rattle.mix_engine.specs.Mixer.{Mixer, Connection}
use Rattle.mix_engine.specs.Connections.{conn_at, attending, first_due}
use Rattle.mix_engine.specs.Outcomes.{Outcome, told_of, only, unbuilt, joins, identifies}
use Rattle.mix_engine.specs.Leaving.{goes}
use Rattle.mix_engine.specs.Requests.{answers}
use Rattle.mix_engine.specs.Told.{takes}

-- an action of a connection: one that isn't open is told so, and one that was cut is told what waits
-- for it and closed with 4011, and does nothing else
abbrev pub acting : Mixer → ℕ → Option Connection → (Connection → Outcome) → Outcome
acting s conn None act = only s (Gone conn) []
acting s conn (Some c) act = if c.cut then goes s conn (Closed conn 4011) else act c

-- a mask without the bits of activity and of showing, whose events nobody is told yet
abbrev pub is_deaf : ℕ → Bool
is_deaf mask = bit_and mask 131072 == 0 && bit_and mask 262144 == 0

-- what comes of a message that was heard. A mask that isn't deaf isn't built yet, and neither is a batch
abbrev pub heard_from : Mixer → ℕ → Heard → Outcome
heard_from s conn (Say said mask) =
    if is_deaf mask then identifies s conn mask said else unbuilt s
heard_from s conn (Ask ask) = answers s conn ask
heard_from s conn (Batch ask) = unbuilt s
heard_from s conn (Close code) = goes s conn (Closed conn code)

-- a connection whose next request is due has it done, which isn't built yet; where none is, it is told
-- what waits for it
abbrev pub goes_on : Mixer → ℕ → Connection → Outcome
goes_on s conn c =
    if first_due s.studio.graph.clock c.batches then unbuilt s else only s (Told conn) []

-- a frame of the studio as it is found has the clock's number. A fade that comes to its end tells so
abbrev pub takes_frame : Mixer → Outcome
takes_frame s = record
    (only s (Frame s.studio.graph.clock (recording_of s.studio.recording)) []) {
      events = event_if (advance_program s.studio.program).change.ended (SceneTransitionEnded Fade);
      studio = studio_settled s.studio (picture_taken s.studio);
    }

-- whether a frame of this number is in flight
abbrev pub is_in_flight : ℕ → GraphState → Bool
is_in_flight number g = list_any (λ f. f.number == number) g.frames

-- a frame is given back
abbrev pub gives_back : Mixer → ℕ → Outcome
gives_back s number = record (only s (FrameGone number) []) {
  studio = studio_settled s.studio (frame_ended number s.studio);
}

-- what each kind of action comes to. Sound and destruction aren't built yet
abbrev pub outcome : Mixer → Action → Outcome
outcome s (Arrive challenge) =
    if nat_lt (length s.conns) standard.conns
    then joins s challenge (hello s.secret challenge) else only s Full []
outcome s (Hear conn message) = acting s conn (conn_at conn s.conns)
    (λ c. heard_from s conn (hear s.secret c.challenge c.mask message))
outcome s (Poll conn) = acting s conn (conn_at conn s.conns) (λ c. only s (Told conn) [])
outcome s (BatchNext conn) = acting s conn (conn_at conn s.conns) (goes_on s conn)
outcome s (Leave conn) = acting s conn (conn_at conn s.conns) (λ c. goes s conn (Left conn))
outcome s VideoTick = if has_room s.studio then takes_frame s else only s NoFrame []
outcome s AudioTick = unbuilt s
outcome s (FrameDone number) =
    if is_in_flight number s.studio.graph then gives_back s number else only s NoSuchFrame []
outcome s Destroy = unbuilt s

-- at the end of an action nothing waits for the one that acted. For every other connection the
-- events wait that it takes, and it is cut where 4096 texts wait, or more
abbrev pub rested : Option ℕ → List Event → Connection → Connection
rested actor events c =
    if is_but actor c.number then record c { waits = 0 }
    else (let waits : ℕ = c.waits + length (takes c events) in record c {
      waits = waits;
      cut = c.cut || nat_le standard.waiting waits;
    })

-- the state that an outcome leaves. What isn't built leaves all as it is
abbrev pub after : Mixer → Outcome → Mixer
after s o = if is_unbuilt o.heading then s else record s {
  studio = o.studio;
  notes = o.notes;
  conns = map (rested (actor_of o.heading) (told_of s o)) (attending o.attendance s.conns);
  next_conn = o.next_conn;
}

-- the state after one action
abbrev pub step : Mixer → Action → Mixer
step s action = after s (outcome s action)

-- the state after actions, from the first on
abbrev pub steps : Mixer → List Action → Mixer
steps s [] = s
steps s (action ∷ actions) = steps (step s action) actions
