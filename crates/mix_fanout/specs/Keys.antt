-- Lists of keys in place of events: each event is kept once, under its key, with the number of
-- connections that it waits for, of which there is one at least.
use Rattle.std.specs.Prelude.{◌≡◌, ℕ, ◌+◌, ◌-◌, ◌<◌, ◌≤◌, Bool, true, false, List, [], ◌∷◌, ◌++◌}
use Rattle.std.specs.Prelude.{◌==◌, ◌&&◌, not, filter_map, option_map, length}
use Rattle.std.specs.Prelude.{Option, Some, None, if◌then◌else◌, bit_and, nat_le}
use Rattle.slab.specs.Slab.{Slab, get, HasRoomFor}
use Rattle.mix_model.specs.declared.event.Event.{Event}
use Rattle.mix_fanout.specs.declared.kept.Kept.{Kept}
use Rattle.mix_fanout.specs.Lanes.{Lane, is_but}

-- a connection with the keys of what waits for it, and room for so many more
pub record Lined : Type 0 where
  pub conn : ℕ
  pub mask : ℕ
  pub keys : List ℕ
  pub cut : Bool
  pub room : ℕ

-- the event itself
abbrev pub event_of : Kept → Event
event_of kept = kept.event

-- the event under a key
abbrev pub event_at : Slab Kept → ℕ → Option Event
event_at store key = option_map event_of (get store key)

-- no connection where nothing is kept
abbrev pub holders_of : Option Kept → ℕ
holders_of None = 0
holders_of (Some kept) = kept.holders

-- for how many connections the event under a key waits
abbrev pub held : Slab Kept → ℕ → ℕ
held store key = holders_of (get store key)

-- the events under these keys
abbrev pub events_of : Slab Kept → List ℕ → List Event
events_of store keys = filter_map (event_at store) keys

-- the connection with its events in place of their keys
abbrev pub lane_of : Slab Kept → Lined → Lane
lane_of store l =
    record { conn = l.conn; mask = l.mask; waiting = events_of store l.keys; cut = l.cut }

-- how often a key stands in a list
abbrev pub times : ℕ → List ℕ → ℕ
times key [] = 0
times key (k ∷ ks) = (if k == key then 1 else 0) + times key ks

-- how often a key stands in the lists of all
abbrev pub total : ℕ → List Lined → ℕ
total key [] = 0
total key (l ∷ ls) = times key l.keys + total key ls

-- each has room for so many keys
abbrev pub HasRoom : ℕ → List Lined → Type 0
HasRoom room [] = Unit {0}
HasRoom room (l ∷ ls) = (room ≤ l.room) × HasRoom room ls

-- an event is held as often as its key stands in the lists, so what is kept stands in one of them,
-- and there is room for so many more, in the store and in each list
pub record Holds (spare : ℕ) (store : Slab Kept) (ls : List Lined) : Type 0 where
  pub counts : (key : ℕ) → held store key ≡ total key ls
  pub store_room : HasRoomFor store spare
  pub lists_room : HasRoom spare ls

-- these keys were let go once each: what is still held is what it was, and no room was taken
pub record LetGo (old new : Slab Kept) (keys : List ℕ) : Type 0 where
  pub counts : (key : ℕ) → held new key + times key keys ≡ held old key
  pub same : (key : ℕ) → 0 < held new key → event_at new key ≡ event_at old key
  pub room : (room : ℕ) → HasRoomFor old room → HasRoomFor new room

-- so many connections hold an event under this key, which was vacant; all else is as it was
pub record TakesIn (old new : Slab Kept) (key : ℕ) (event : Event) (holders : ℕ) : Type 0 where
  pub counts : (k : ℕ) → held new k ≡ held old k + (if key == k then holders else 0)
  pub entered : 0 < holders → event_at new key ≡ Some event
  pub same : (k : ℕ) → 0 < held old k → event_at new k ≡ event_at old k
  pub room : (room : ℕ) → HasRoomFor old (room + 1) → HasRoomFor new room

-- whether these are the keys of the connection
abbrev pub is_line : ℕ → Lined → Bool
is_line conn l = l.conn == conn

-- who has just come: no keys, and room for so many
abbrev pub new_line : ℕ → ℕ → Lined
new_line conn room = record { conn = conn; mask = 0; keys = []; cut = false; room = room }

-- whether an event of this bit is queued for the connection
abbrev pub takes : ℕ → Option ℕ → Lined → Bool
takes bit but l = not (is_but but l.conn) && (not l.cut && not (bit_and l.mask bit == 0))

-- for how many connections an event of this bit is queued
abbrev pub takers : ℕ → Option ℕ → List Lined → ℕ
takers bit but [] = 0
takers bit but (l ∷ ls) = (if takes bit but l then 1 else 0) + takers bit but ls

-- the key comes last where the event is queued, and one place is taken everywhere
abbrev pub posted_line : ℕ → ℕ → Option ℕ → Lined → Lined
posted_line key bit but l = record l {
  keys = if takes bit but l then l.keys ++ key ∷ [] else l.keys;
  room = l.room - 1;
}

-- the connection has no keys any more
abbrev pub cleared_line : ℕ → Lined → Lined
cleared_line conn l = record l { keys = if is_line conn l then [] else l.keys }

-- the connection has this mask
abbrev pub masked_line : ℕ → ℕ → Lined → Lined
masked_line conn mask l = record l { mask = if is_line conn l then mask else l.mask }

-- who has so many keys, or more, is cut, but for the one that is left out
abbrev pub cut_line : ℕ → Option ℕ → Lined → Lined
cut_line limit but l = record l {
  cut = if not (is_but but l.conn) && nat_le limit (length l.keys) then true else l.cut;
}

-- who isn't there is not cut
abbrev pub is_cut_line : Option Lined → Bool
is_cut_line None = false
is_cut_line (Some l) = l.cut

-- room for so many
abbrev pub with_room : ℕ → Lined → Lined
with_room room l = record l { room = room }

-- the keys of what waits for the connection, as often as it has joined
abbrev pub keys_at : ℕ → List Lined → List ℕ
keys_at conn [] = []
keys_at conn (l ∷ ls) = (if is_line conn l then l.keys else []) ++ keys_at conn ls
