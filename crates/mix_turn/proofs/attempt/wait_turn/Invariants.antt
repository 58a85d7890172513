use Rattle.std.proofs.Common.{◌≡◌}
use Rattle.mix_turn.proofs.TurnLemmas.{Waits}
use Rattle.mix_turn.proofs.attempt.wait_turn.Given as goal

-- it waits with its own entry
abbrev pub invariant-loop : goal.invariant-loop
invariant-loop g l =
    record {
      can_next : (goal.iterator-loop g).can_next l.iterator';
      ends : (goal.iterator-loop g).is_finite l.iterator';
      of : l.seat.table_id ≡ l.fn.seat.table_id;
      waits : Waits l.fn.seat.me l.seat.me;
      entry : l.entry ≡ l.fn.entry;
    }
