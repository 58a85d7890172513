-- The kinds of messages that a client sends.
use Rattle.std.specs.Prelude.{ℕ, ℤ, pos, negsuc, ◌==◌, Option, Some, None, Result, Ok, Err, if◌then◌else◌}
use Rattle.mix_session.specs.declared.op.Op.{Op}
use Rattle.mix_session.specs.declared.op.Op.TheVariants.{Identify, Reidentify, Request, RequestBatch}
use Rattle.mix_session.specs.Close.{not_identified, already_identified}

-- the kinds by their number, `op`
abbrev pub op_of : ℤ → Option Op
op_of (pos n) =
    if n == 1 then Some Identify
    else (if n == 3 then Some Reidentify
    else (if n == 6 then Some Request
    else (if n == 8 then Some RequestBatch else None)))
op_of (negsuc n) = None

-- the first message identifies the connection, and no later one does; an identified connection
-- has a mask
abbrev pub in_turn : Op → Option ℕ → Result (Unit {0}) ℕ
in_turn Identify None = Ok tt
in_turn Identify (Some mask) = Err already_identified
in_turn Reidentify None = Err not_identified
in_turn Reidentify (Some mask) = Ok tt
in_turn Request None = Err not_identified
in_turn Request (Some mask) = Ok tt
in_turn RequestBatch None = Err not_identified
in_turn RequestBatch (Some mask) = Ok tt
