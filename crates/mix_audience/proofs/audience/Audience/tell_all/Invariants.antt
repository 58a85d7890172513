use Rattle.std.proofs.Common.{◌≡◌, ◌+◌, length, map, None, vec_len}
use Rattle.std.specs.Vec.Iter.{into_iter_items, into_iter_len}
use Rattle.mix_audience.specs.Listeners.{queued}
use Rattle.mix_audience.specs.Acting.{queued_in}
use Rattle.mix_audience.proofs.audience.Audience.tell_all.Given as goal

-- what was told so far, and then the rest, is the whole
abbrev pub invariant-loop-twin : goal.invariant-loop-twin
invariant-loop-twin l = record {
  listeners : map (queued None (queued_in (into_iter_items l.twin-iterator))) l.self.listeners
      ≡ map (queued None (queued_in l.fn.twins.items)) l.fn.self.listeners;
  secret : l.self.secret ≡ l.fn.self.secret;
  count : into_iter_len l.twin-iterator ≡ length (into_iter_items l.twin-iterator);
  spare : l.self.spare + vec_len l.fn.twins ≡ l.fn.self.spare + into_iter_len l.twin-iterator;
}
