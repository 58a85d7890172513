-- The rounds fall; and what is left has to hold the items that are left.
use Rattle.std.proofs.Common.{◌≡◌, ◌-◌, ◌+◌, drop, map}
use Rattle.mix_model.specs.Ranks.{weight_by, sum_of}
use Rattle.mix_shape.specs.NewItems.{inside_with}
use Rattle.mix_store.proofs.search.+weighed.Given as goal

abbrev pub decreases-weighed : goal.decreases-weighed
decreases-weighed l = l.rounds

abbrev pub invariant-loop-item : goal.invariant-loop-item
invariant-loop-item l =
    l.left + weight_by (inside_with l.new l.rows) l.rounds l.fn.of ≡ l.most
    + sum_of (map (λ c. weight_by (inside_with l.new l.rows) (l.rounds - 1) c)
    (map (λ i. i.child) (drop l.item-index l.item-items)))
