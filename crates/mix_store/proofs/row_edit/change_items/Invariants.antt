-- the items so far, and then those that are left as they are changed, are all
use Rattle.std.proofs.Common.{◌≡◌, ◌++◌, take, drop, map, length, if◌then◌else◌}
use Rattle.mix_model.specs.Rows.{has_id}
use Rattle.mix_store.specs.RowEdits.{item_edited}
use Rattle.mix_store.proofs.row_edit.change_items.Given as goal

abbrev pub invariant-loop-index : goal.invariant-loop-index
invariant-loop-index l = record {
  all : take l.index l.items.items
      ++ map (λ i. if has_id l.fn.id i then item_edited l.edit i else i)
      (drop l.index l.items.items)
      ≡ map (λ i. if has_id l.fn.id i then item_edited l.edit i else i) l.fn.items.items;
  count : length l.items.items ≡ length l.fn.items.items;
}
