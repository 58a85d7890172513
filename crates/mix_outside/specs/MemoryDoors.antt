-- What a door and a pace in memory do at each call.
use Rattle.std.specs.Prelude.{ℕ, ◌+◌, Bool, true, false, ◌||◌, nat_lt, List, [], ◌∷◌, drop}
use Rattle.std.specs.Prelude.{if◌then◌else◌}
use Rattle.mix_outside.specs.Calls.{Calls, no_calls, fails_next, one_call_more}
use Rattle.mix_outside.specs.Doors.{ends, wait_in}
use Rattle.mix_outside.specs.Faults.{one_more}
use Rattle.mix_outside.specs.MemoryLinks.{LinkState}
use Rattle.mix_outside.specs.Paces.{ticks_in, is_last}
use Rattle.mix_outside.specs.declared.door.Came.{Came}
use Rattle.mix_outside.specs.declared.door.Came.TheVariants as cames
use Rattle.mix_outside.specs.declared.mem_door.Comer.{Comer}
use Rattle.mix_outside.specs.declared.mem_door.Comer.TheVariants as comers
use Rattle.mix_outside.specs.declared.pace.Beat.{Beat}
use Rattle.mix_outside.specs.declared.pace.Beat.TheVariants as beats

-- a door in memory
pub record DoorState : Type 0 where
  -- who is still to come
  pub left : List Comer
  pub ended : Bool
  pub calls : Calls
  pub faults : ℕ
  pub idles : ℕ

-- a door through which nobody came yet
abbrev pub new_door : List Comer → List ℕ → DoorState
new_door left failing = record {
  left = left;
  ended = false;
  calls = no_calls failing;
  faults = 0;
  idles = 0;
}

-- a comer is a link, or none
abbrev pub link_of : Comer → List (LinkState × List ℕ) → List (LinkState × List ℕ)
link_of (comers.Link link challenge) more = (link, challenge) ∷ more
link_of comers.Idle more = more

-- the links among the comers
abbrev pub links_of : List Comer → List (LinkState × List ℕ)
links_of [] = []
links_of (comer ∷ more) = link_of comer (links_of more)

-- a comer, as it comes
abbrev pub as_came : Comer → Came LinkState
as_came (comers.Link link challenge) = cames.Link link challenge
as_came comers.Idle = cames.Idle

-- the first who is still to come, which is the end where nobody is
abbrev pub first_came : List Comer → Came LinkState
first_came [] = cames.End
first_came (comer ∷ more) = as_came comer

-- what a door gives: it fails exactly where its call is named
abbrev pub came_of : DoorState → Came LinkState
came_of door = if fails_next door.calls then cames.Failed else first_came door.left

-- who is still to come after an answer
abbrev pub left_behind : Came LinkState → List Comer → List Comer
left_behind (cames.Link link challenge) left = drop 1 left
left_behind cames.Idle left = drop 1 left
left_behind cames.End left = left
left_behind cames.Failed left = left

-- the faults after an answer
abbrev pub faults_behind : Came LinkState → ℕ → ℕ
faults_behind (cames.Link link challenge) faults = faults
faults_behind cames.Idle faults = faults
faults_behind cames.End faults = faults
faults_behind cames.Failed faults = one_more faults

-- what an answer leaves
abbrev pub after_next : Came LinkState → DoorState → DoorState
after_next came door = record {
  left = left_behind came door.left;
  ended = door.ended || ends came;
  calls = one_call_more door.calls;
  faults = faults_behind came door.faults;
  idles = door.idles + wait_in came;
}

-- a pace that counts
pub record PaceState : Type 0 where
  -- the ticks that it gave
  pub ticks : ℕ
  -- the ticks that it gives before its end
  pub most : ℕ
  pub ended : Bool

-- a pace that gave nothing yet
abbrev pub new_pace : ℕ → PaceState
new_pace most = record { ticks = 0; most = most; ended = false }

-- it gives its end after exactly its ticks
abbrev pub beat_of : PaceState → Beat
beat_of pace = if nat_lt pace.ticks pace.most then beats.Tick else beats.End

-- what a beat leaves
abbrev pub after_beat : Beat → PaceState → PaceState
after_beat beat pace = record pace {
  ticks = pace.ticks + ticks_in beat;
  ended = pace.ended || is_last beat;
}
