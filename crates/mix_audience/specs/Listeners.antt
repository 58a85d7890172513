-- The open connections with the events that wait for each, and what actions make of them.
use Rattle.std.specs.Prelude.{ℕ, Bool, false, List, [], ◌++◌, ◌==◌, ◌||◌, not, nat_le}
use Rattle.std.specs.Prelude.{Option, None, Some, filter, find, length, if◌then◌else◌}
use Rattle.std.specs.Option.{option_map_or}
use Rattle.mix_base.specs.Limits.{standard}
use Rattle.mix_model.specs.declared.event.Event.{Event}
use Rattle.mix_fanout.specs.Lanes.{is_but}
use Rattle.mix_audience.specs.Taking.{takes}

-- an open connection: its number, the challenge that it was told in Hello, the mask of the events
-- that it wants, which it has once it is identified, the events that wait for it in their order, and
-- whether it is cut
pub record Listener : Type 0 where
  pub number : ℕ
  pub challenge : List ℕ
  pub mask : Option ℕ
  pub waiting : List Event
  pub cut : Bool

-- all that contracts see of an audience: the secret that a connection has to know, which is its
-- password and its salt, the open connections in the order in which they came, and for how many
-- events there is room
pub record AudienceModel : Type 0 where
  pub secret : Option (List ℕ × List ℕ)
  pub listeners : List Listener
  pub spare : ℕ

-- whether this is the connection of the number
abbrev pub is_listener : ℕ → Listener → Bool
is_listener number l = l.number == number

-- and whether it is another
abbrev pub is_other : ℕ → Listener → Bool
is_other number l = not (is_listener number l)

-- whether it is the one that acts; where nobody acts none is
abbrev pub is_actor : Option ℕ → Listener → Bool
is_actor actor l = is_but actor l.number

-- the open connection of this number
abbrev pub listener_at : ℕ → List Listener → Option Listener
listener_at number listeners = find (is_listener number) listeners

-- what waits for a connection; nothing where it isn't open
abbrev pub waiting_for : ℕ → List Listener → List Event
waiting_for number listeners = option_map_or (λ l. l.waiting) (listener_at number listeners) []

-- the events of these that a connection takes, in their order
abbrev pub taken_of : Listener → List Event → List Event
taken_of l events = filter (takes l.mask l.cut) events

-- a connection that comes: it isn't identified, and nothing waits for it
abbrev pub new_listener : ℕ → List ℕ → Listener
new_listener number challenge = record {
  number = number;
  challenge = challenge;
  mask = None;
  waiting = [];
  cut = false;
}

-- a connection is identified, or names other events: what waits for it stays
abbrev pub with_mask : ℕ → ℕ → Listener → Listener
with_mask number mask l = if is_listener number l then record l { mask = Some mask } else l

-- events wait for everybody who takes them, but for the one that acts: that one is told them at once
abbrev pub queued : Option ℕ → List Event → Listener → Listener
queued actor events l =
    if is_actor actor l then l else record l { waiting = l.waiting ++ taken_of l events }

-- nothing waits for the connection any more
abbrev pub emptied : ℕ → Listener → Listener
emptied number l = if is_listener number l then record l { waiting = [] } else l

-- at the end of an action nothing waits for the one that acted, and every other connection is cut for
-- which 4096 texts wait, or more. Who is cut stays cut
abbrev pub ended : Option ℕ → Listener → Listener
ended actor l = if is_actor actor l then record l { waiting = [] }
    else record l { cut = l.cut || nat_le standard.waiting (length l.waiting) }
