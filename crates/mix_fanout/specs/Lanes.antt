-- Connections with what waits for them, and what the calls make of them.
use Rattle.std.specs.Prelude.{ℕ, Bool, true, false, List, [], ◌∷◌, ◌++◌, ◌==◌, ◌&&◌, not, map}
use Rattle.std.specs.Prelude.{Option, Some, None, if◌then◌else◌, bit_and, nat_le, length, find}
use Rattle.std.specs.List.{list_any}
use Rattle.mix_model.specs.declared.event.Event.{Event}
use Rattle.mix_events.specs.declared.said.Said.{Said}
use Rattle.mix_events.specs.declared.said.Said.TheVariants.{Event as OfEvent}
use Rattle.mix_events.specs.Events.{event_intent}

-- a joined connection: which events it wants, the events that wait for it in their order, and
-- whether it is cut
pub record Lane : Type 0 where
  pub conn : ℕ
  pub mask : ℕ
  pub waiting : List Event
  pub cut : Bool

-- what contracts see: the connections in the order in which they joined, for how many events there
-- is room at each of them, and from how many waiting texts on a connection is full
pub record Fans : Type 0 where
  pub lanes : List Lane
  pub spare : ℕ
  pub limit : ℕ

-- whether this is the lane of the connection
abbrev pub is_lane : ℕ → Lane → Bool
is_lane conn lane = lane.conn == conn

-- whether the connection has joined
abbrev pub is_joined : ℕ → List Lane → Bool
is_joined conn lanes = list_any (is_lane conn) lanes

-- an event is wanted where the mask has its bit; who isn't identified wants none
abbrev pub wants : Option ℕ → Event → Bool
wants None event = false
wants (Some mask) event = not (bit_and mask (event_intent event) == 0)

-- the mask under which a connection is kept: 0 where it isn't identified, which wants none either
abbrev pub kept_mask : Option ℕ → ℕ
kept_mask None = 0
kept_mask (Some mask) = mask

-- whether the connection is the one that is left out
abbrev pub is_but : Option ℕ → ℕ → Bool
is_but None conn = false
is_but (Some but) conn = but == conn

-- whether the event is queued for the connection: it isn't the one that is left out, it isn't cut,
-- and it wants the event
abbrev pub is_told : Event → Option ℕ → Lane → Bool
is_told event but lane = not (is_but but lane.conn) && (not lane.cut && wants (Some lane.mask)
    event)

-- a connection that has just come: nobody knows yet what it wants, and nothing waits for it
abbrev pub new_lane : ℕ → Lane
new_lane conn = record { conn = conn; mask = 0; waiting = []; cut = false }

-- the connection has this mask
abbrev pub masked : ℕ → ℕ → Lane → Lane
masked conn mask lane = if is_lane conn lane then record lane { mask = mask } else lane

-- an event comes last of what waits
abbrev pub posted : Event → Option ℕ → Lane → Lane
posted event but lane =
    if is_told event but lane then record lane { waiting = lane.waiting ++ event ∷ [] } else lane

-- nothing waits for the connection
abbrev pub cleared : ℕ → Lane → Lane
cleared conn lane = if is_lane conn lane then record lane { waiting = [] } else lane

-- a connection is full where so many texts wait for it, or more
abbrev pub is_full : ℕ → Lane → Bool
is_full limit lane = nat_le limit (length lane.waiting)

-- who is full is cut, but for the one that is left out
abbrev pub cut_where_full : ℕ → Option ℕ → Lane → Lane
cut_where_full limit but lane =
    if not (is_but but lane.conn) && is_full limit lane then record lane { cut = true } else lane

-- events as they are said; none for who hasn't joined
abbrev pub said_of : Option Lane → List Said
said_of None = []
said_of (Some lane) = map OfEvent lane.waiting

-- what waits for a connection, as it will be said
abbrev pub said_to : ℕ → List Lane → List Said
said_to conn lanes = said_of (find (is_lane conn) lanes)

-- who hasn't joined is not cut
abbrev pub cut_of : Option Lane → Bool
cut_of None = false
cut_of (Some lane) = lane.cut

-- whether a connection is cut
abbrev pub is_cut : ℕ → List Lane → Bool
is_cut conn lanes = cut_of (find (is_lane conn) lanes)
