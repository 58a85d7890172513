-- The calls of an object in memory, some of which are to fail.
use Rattle.std.specs.Prelude.{ℕ, ◌+◌, ◌-◌, ◌^◌, ◌==◌, Bool, false, List, Option, Some, None}
use Rattle.std.specs.Prelude.{if◌then◌else◌}
use Rattle.std.specs.List.{list_any}

-- the calls of an object so far, and which are to fail
pub record Calls : Type 0 where
  -- the number of the next call, from 0; none, once every number that a list can hold is used
  pub next : Option ℕ
  -- the numbers of the calls that are to fail
  pub failing : List ℕ

-- no call was made yet
abbrev pub no_calls : List ℕ → Calls
no_calls failing = record { next = Some 0; failing = failing }

-- whether a call is to fail: the list holds its number
abbrev pub is_named : Option ℕ → List ℕ → Bool
is_named None failing = false
is_named (Some call) failing = list_any (λ c. c == call) failing

-- whether the next call is to fail
abbrev pub fails_next : Calls → Bool
fails_next calls = is_named calls.next calls.failing

-- the number after a number
abbrev pub number_after : Option ℕ → Option ℕ
number_after None = None
number_after (Some call) = if call == 2 ^ 64 - 1 then None else Some (call + 1)

-- one call more was made
abbrev pub one_call_more : Calls → Calls
one_call_more calls = record calls { next = number_after calls.next }
