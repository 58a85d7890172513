-- The rounds fall; and the greatest so far, with the items that are left, is the greatest of all.
use Rattle.std.proofs.Common.{◌≡◌, ◌-◌, ◌≤◌, drop, map, max, suc}
use Rattle.mix_model.specs.Sets.{greatest}
use Rattle.mix_model.specs.Ranks.{rank_by}
use Rattle.mix_shape.specs.NewItems.{inside_with}
use Rattle.mix_store.proofs.search.+rank_from.Given as goal

abbrev pub decreases-rank_from : goal.decreases-rank_from
decreases-rank_from l = l.rounds

abbrev pub invariant-loop-item : goal.invariant-loop-item
invariant-loop-item l = record {
  value : suc (max l.most (greatest (map (λ c. rank_by (inside_with l.new l.rows) (l.rounds - 1) c)
      (map (λ i. i.child) (drop l.item-index l.item-items)))))
      ≡ rank_by (inside_with l.new l.rows) l.rounds l.fn.of;
  bound : l.most ≤ l.rounds - 1;
}
