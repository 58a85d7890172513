-- How the open connections are kept: two lists beside each other. One has their sessions, the other
-- is the fan-out's and has what waits for each.
use Rattle.std.specs.Prelude.{◌≡◌, ℕ, Bool, List, ◌==◌, map, Option, Some, if◌then◌else◌}
use Rattle.std.specs.List.{zip}
use Rattle.mix_base.specs.Limits.{standard}
use Rattle.mix_fanout.specs.Lanes.{Lane, Fans, kept_mask}
use Rattle.mix_audience.specs.declared.member.Member.{Member}
use Rattle.mix_audience.specs.Listeners.{Listener, AudienceModel}

-- whether this is the session of the connection
abbrev pub is_member : ℕ → Member → Bool
is_member conn m = m.conn == conn

-- the connection has this mask, and no other changes
abbrev pub identified : ℕ → ℕ → Member → Member
identified conn mask m = if is_member conn m
    then record m { session = record m.session { mask = Some mask } } else m

-- the session of an open connection: it knows the secret
abbrev pub member_of : Option (List ℕ × List ℕ) → Listener → Member
member_of secret l = record {
  conn = l.number;
  session = record { secret = secret; challenge = l.challenge; mask = l.mask };
}

-- its lane in the fan-out: who isn't identified has the mask 0 there
abbrev pub lane_of : Listener → Lane
lane_of l =
    record { conn = l.number; mask = kept_mask l.mask; waiting = l.waiting; cut = l.cut }

-- the open connection of a session and its lane
abbrev pub listener_of : Member × Lane → Listener
listener_of p = record {
  number = p.0.conn;
  challenge = p.0.session.challenge;
  mask = p.0.session.mask;
  waiting = p.1.waiting;
  cut = p.1.cut;
}

-- the open connections of two such lists
abbrev pub listeners_of : List Member → List Lane → List Listener
listeners_of members lanes = map listener_of (zip members lanes)

-- what contracts see of a secret, the sessions and the fan-out
abbrev pub audience_of : Option (List ℕ × List ℕ) → List Member → Fans → AudienceModel
audience_of secret members fans = record {
  secret = secret;
  listeners = listeners_of members fans.lanes;
  spare = fans.spare;
}

-- each connection that contracts see has its session and its lane at its own place in the two lists,
-- and is full where the standard number of texts waits
pub record IsKept (members : List Member) (fans : Fans) (a : AudienceModel) : Type 0 where
  pub members_are : members ≡ map (member_of a.secret) a.listeners
  pub lanes_are : fans.lanes ≡ map lane_of a.listeners
  pub limit : fans.limit ≡ standard.waiting
