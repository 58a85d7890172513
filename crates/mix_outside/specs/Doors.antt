-- What one call of a door does to what it tells.
use Rattle.std.specs.Prelude.{ℕ, Bool, true, false, List, [], ◌∷◌, Result, Ok, Err}
use Rattle.mix_outside.specs.declared.door.Came.{Came}
use Rattle.mix_outside.specs.declared.door.Came.TheVariants as cames

-- the link of an answer with its challenge, where it is one
abbrev pub link_in : {L : Type 0} → Came L → List (L × List ℕ)
link_in (cames.Link link challenge) = (link, challenge) ∷ []
link_in cames.Idle = []
link_in cames.End = []
link_in cames.Failed = []

-- the link that a call gave, where it gave one
abbrev pub links_in : {L E : Type 0} → Result (Came L) E → List (L × List ℕ)
links_in (Ok came) = link_in came
links_in (Err error) = []

-- whether an answer is the end
abbrev pub ends : {L : Type 0} → Came L → Bool
ends (cames.Link link challenge) = false
ends cames.Idle = false
ends cames.End = true
ends cames.Failed = false

-- whether a call gave the end
abbrev pub is_end : {L E : Type 0} → Result (Came L) E → Bool
is_end (Ok came) = ends came
is_end (Err error) = false

-- how often an answer is idle
abbrev pub wait_in : {L : Type 0} → Came L → ℕ
wait_in (cames.Link link challenge) = 0
wait_in cames.Idle = 1
wait_in cames.End = 0
wait_in cames.Failed = 0

-- how often a call was idle
abbrev pub waits_in : {L E : Type 0} → Result (Came L) E → ℕ
waits_in (Ok came) = wait_in came
waits_in (Err error) = 0
