-- The open connections, and what actions make of them.
use Rattle.std.specs.Prelude.{ℕ, Bool, false, List, [], ◌∷◌, ◌++◌, ◌==◌, not, nat_le}
use Rattle.std.specs.Prelude.{Option, Some, None, map, filter, find, if◌then◌else◌}
use Rattle.mix_engine.specs.Mixer.{Connection, PendingBatch}

-- what an action does to the open connections, telling aside: a connection comes with the challenge of
-- its login, is identified and wants the events of a mask, goes, or has these pending batches
pub data Attendance : Type 0 where
  Same : Attendance
  Joins : ℕ → List ℕ → Attendance
  Identifies : ℕ → ℕ → Attendance
  Leaves : ℕ → Attendance
  Pends : ℕ → List PendingBatch → Attendance

abbrev pub is_conn : ℕ → Connection → Bool
is_conn number c = c.number == number

-- the open connection of this number
abbrev pub conn_at : ℕ → List Connection → Option Connection
conn_at number conns = find (is_conn number) conns

-- a connection that has just come: nobody knows yet what it wants, and nothing waits for it
abbrev pub new_conn : ℕ → List ℕ → Connection
new_conn number challenge = record {
  number = number;
  challenge = challenge;
  mask = None;
  waits = 0;
  cut = false;
  batches = [];
}

abbrev pub with_mask : ℕ → ℕ → Connection → Connection
with_mask number mask c = if is_conn number c then record c { mask = Some mask } else c

abbrev pub with_batches : ℕ → List PendingBatch → Connection → Connection
with_batches number batches c =
    if is_conn number c then record c { batches = batches } else c

-- the open connections after an action, telling aside
abbrev pub attending : Attendance → List Connection → List Connection
attending Same conns = conns
attending (Joins conn challenge) conns = conns ++ new_conn conn challenge ∷ []
attending (Identifies conn mask) conns = map (with_mask conn mask) conns
attending (Leaves conn) conns = filter (λ c. not (is_conn conn c)) conns
attending (Pends conn batches) conns = map (with_batches conn batches) conns

-- whether the next request of the oldest batch is due at this clock
abbrev pub first_due : ℕ → List PendingBatch → Bool
first_due clock [] = false
first_due clock (batch ∷ batches) = nat_le batch.due clock
