-- What a connection is told: a definition over the whole history.
use Rattle.std.specs.Prelude.{ℕ, Bool, List, [], ◌∷◌, ◌++◌, map, filter}
use Rattle.std.specs.Prelude.{if◌then◌else◌}
use Rattle.std.specs.List.{flat_map, list_any}
use Rattle.std.specs.Option.{option_map_or}
use Rattle.mix_audience.specs.Taking as audience
use Rattle.mix_fanout.specs.Lanes.{is_but}
use Rattle.mix_model.specs.declared.event.Event.{Event}
use Rattle.mix_events.specs.declared.said.Said.{Said}
use Rattle.mix_events.specs.declared.said.Said.TheVariants.{Event as OfEvent}
use Rattle.mix_engine.specs.declared.heading.Heading.{Heading}
use Rattle.mix_engine.specs.Headings.{actor_of}
use Rattle.mix_engine.specs.Mixer.{Mixer, Connection}
use Rattle.mix_engine.specs.Connections.{conn_at}
use Rattle.mix_engine.specs.Outcomes.{Outcome, told_of}

-- an entry of the history as telling sees it: the connections before it, what heads its reply, what it
-- says to the one that acts, and its events
pub record Happened : Type 0 where
  pub before : List Connection
  pub heading : Heading
  pub said : List Said
  pub events : List Event

abbrev pub happened : Mixer → Outcome → Happened
happened s o =
    record { before = s.conns; heading = o.heading; said = o.said; events = told_of s o }

-- the events of these that a connection takes: those that its mask wants, and none once it is cut
abbrev pub takes : Connection → List Event → List Event
takes c events = filter (audience.takes c.mask c.cut) events

-- the events of an entry that a connection takes, by its mask in the state before: so who causes an
-- event takes it too
abbrev pub taken : ℕ → Happened → List Event
taken number h = option_map_or (λ c. takes c h.events) (conn_at number h.before) []

-- whether the reply is one to this connection
abbrev pub is_entry_of : ℕ → Happened → Bool
is_entry_of number h = is_but (actor_of h.heading) number

-- the entries after the connection's last one; all of them where it has none
abbrev pub since : ℕ → List Happened → List Happened
since number [] = []
since number (h ∷ hs) =
    if list_any (is_entry_of number) hs then since number hs
    else (if is_entry_of number h then hs else h ∷ hs)

-- what a connection is told at an entry of its own: the events that it takes from the entries after
-- its entry before, up to and with this one, and then what is said
abbrev pub told_at : ℕ → List Happened → Happened → List Said
told_at number before h =
    map OfEvent (flat_map (taken number) (since number before ++ h ∷ [])) ++ h.said
