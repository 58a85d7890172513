use Rattle.std.proofs.Common.{◌≡◌, ◌≤◌, ◌+◌, ◌-◌, map, take, length, vec_len, vec_capacity}
use Rattle.mix_events.specs.declared.said.Said.TheVariants.{Event as OfEvent}
use Rattle.mix_fanout.specs.Keys.{events_of}
use Rattle.mix_fanout.proofs.store.texts.Given as goal

-- the events so far are said, and there is room for the others and for so many further texts
abbrev pub invariant-loop-key : goal.invariant-loop-key
invariant-loop-key l = record {
  said : l.said.items ≡ map OfEvent (events_of l.store (take l.key-index l.keys));
  room : vec_len l.said + (length l.keys - l.key-index) + l.more ≤ vec_capacity l.said;
}
