use Rattle.std.proofs.Common.{◌≡◌, ◌≤◌, ◌+◌, ◌++◌, All, length, map, Some, vec_capacity, vec_len}
use Rattle.std.specs.Vec.Iter.{into_iter_items, into_iter_len}
use Rattle.mix_events.specs.declared.said.Said.TheVariants.{Event as OfEvent}
use Rattle.mix_audience.specs.Listeners.{queued}
use Rattle.mix_audience.specs.Acting.{IsTwin, queued_in, taken_by}
use Rattle.mix_audience.proofs.audience.Audience.tell.Given as goal

-- what was told so far, and then the rest, is the whole
abbrev pub invariant-loop-twin : goal.invariant-loop-twin
invariant-loop-twin l = record {
  listeners : map (queued (Some l.conn) (queued_in (into_iter_items l.twin-iterator))) l.self.listeners
      ≡ map (queued (Some l.conn) (queued_in l.fn.twins.items)) l.fn.self.listeners;
  said : l.said.items ++ map OfEvent (taken_by l.conn l.self.listeners
      (queued_in (into_iter_items l.twin-iterator)))
      ≡ l.fn.said.items
      ++ map OfEvent (taken_by l.conn l.fn.self.listeners (queued_in l.fn.twins.items));
  secret : l.self.secret ≡ l.fn.self.secret;
  pairs : All IsTwin (into_iter_items l.twin-iterator);
  count : into_iter_len l.twin-iterator ≡ length (into_iter_items l.twin-iterator);
  spare : l.self.spare + vec_len l.fn.twins ≡ l.fn.self.spare + into_iter_len l.twin-iterator;
  room : vec_len l.said + into_iter_len l.twin-iterator ≤ vec_len l.fn.said + vec_len l.fn.twins;
  capacity : vec_capacity l.said ≡ vec_capacity l.fn.said;
}
