-- The mixer as the code keeps it: the whole state, and the open connections with what waits for each.
use Rattle.std.specs.Prelude.{◌≡◌, ℕ, true, List, [], ◌∷◌, ◌++◌, All, Option, Some, None}
use Rattle.std.specs.Prelude.{map, filter, length, if◌then◌else◌}
use Rattle.mix_audience.specs.Listeners.{AudienceModel, Listener, new_listener, with_mask, is_other}
use Rattle.mix_audience.specs.Listeners.{queued, ended}
use Rattle.mix_events.specs.Sayable.{IsSayableEvent}
use Rattle.mix_model.specs.declared.notes.Notes.{Notes}
use Rattle.mix_model.specs.State.{StudioState}
use Rattle.mix_model.specs.WholeShape.{StateShape}
use Rattle.mix_engine.specs.Connections.{Attendance, Same, Joins, Identifies, Leaves, Pends}
use Rattle.mix_engine.specs.Headings.{actor_of, is_unbuilt}
use Rattle.mix_engine.specs.Mixer.{Mixer, Connection}
use Rattle.mix_engine.specs.Outcomes.{Outcome, told_of}
use Rattle.mix_engine.specs.Step.{after, is_deaf}

-- a connection as the state has it: there only the number of what waits counts. So far no batch is
-- pending
abbrev pub conn_of : Listener → Connection
conn_of l = record {
  number = l.number;
  challenge = l.challenge;
  mask = l.mask;
  waits = length l.waiting;
  cut = l.cut;
  batches = [];
}

-- the whole state, and the open connections with what waits for each
pub record Mixed : Type 0 where
  pub mixer : Mixer
  pub listeners : List Listener

abbrev pub mixed_of : StudioState → Notes → AudienceModel → ℕ → Mixed
mixed_of studio notes audience next_conn = record {
  mixer = record {
    studio = studio;
    notes = notes;
    secret = audience.secret;
    conns = map conn_of audience.listeners;
    next_conn = next_conn;
  };
  listeners = audience.listeners;
}

-- the open connections after an action, telling aside
abbrev pub attended : Attendance → List Listener → List Listener
attended Same listeners = listeners
attended (Joins conn challenge) listeners = listeners ++ new_listener conn challenge ∷ []
attended (Identifies conn mask) listeners = map (with_mask conn mask) listeners
attended (Leaves conn) listeners = filter (is_other conn) listeners
attended (Pends conn batches) listeners = listeners

-- and with what is told them
abbrev pub listening : Mixer → Outcome → List Listener → List Listener
listening s o listeners = map (ended (actor_of o.heading))
    (map (queued (actor_of o.heading) (told_of s o)) (attended o.attendance listeners))

-- what an outcome leaves. What isn't built leaves all as it is
abbrev pub mixed_after : Mixed → Outcome → Mixed
mixed_after m o = record {
  mixer = after m.mixer o;
  listeners = if is_unbuilt o.heading then m.listeners
      else listening m.mixer o m.listeners;
}

-- a mask that is deaf to activity, or none
abbrev pub IsDeafMask : Option ℕ → Type 0
IsDeafMask None = Unit {0}
IsDeafMask (Some mask) = is_deaf mask ≡ true

-- an open connection: it wants no event of activity, and what waits for it can be said
pub record IsListener (l : Listener) : Type 0 where
  pub deaf : IsDeafMask l.mask
  pub sayable : All IsSayableEvent l.waiting

-- the state has its shape, its connections are those that listen, and these are as they should be
pub record IsMixing (m : Mixed) : Type 0 where
  pub shape : StateShape m.mixer
  pub conns : m.mixer.conns ≡ map conn_of m.listeners
  pub listeners : All IsListener m.listeners
