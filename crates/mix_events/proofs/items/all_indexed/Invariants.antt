use Rattle.std.proofs.Common.{◌≡◌, drop}
use Rattle.mix_json.specs.Growing.{more_items}
use Rattle.mix_events.specs.ItemEvents.{indexed_from}
use Rattle.mix_events.proofs.items.all_indexed.Given as goal

-- with the rest of the items, from the next place on, the text has all of them
abbrev pub invariant-loop-item : goal.invariant-loop-item
invariant-loop-item l = record {
  count : l.index ≡ l.item-index;
  told : more_items (indexed_from l.index (drop l.item-index l.items)) l.out ≡ more_items (indexed_from 0 l.items) l.fn.out;
}
