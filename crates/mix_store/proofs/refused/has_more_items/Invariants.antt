-- what is left has to hold the items of the rows that are left
use Rattle.std.proofs.Common.{◌≡◌, ◌+◌, drop}
use Rattle.mix_model.specs.Causes.{item_count}
use Rattle.mix_store.proofs.refused.has_more_items.Given as goal

abbrev pub invariant-loop-row : goal.invariant-loop-row
invariant-loop-row l = l.left + item_count l.rows ≡ l.most + item_count (drop l.row-index l.rows)
