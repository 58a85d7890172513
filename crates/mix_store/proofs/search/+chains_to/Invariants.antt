-- The rounds fall; and what the items that are left decide is what all of them decide.
use Rattle.std.proofs.Common.{◌≡◌, ◌-◌, drop, map}
use Rattle.std.specs.List.{list_any}
use Rattle.mix_model.specs.Walks.{leads}
use Rattle.mix_store.specs.Searched.{chained_in}
use Rattle.mix_store.proofs.search.+chains_to.Given as goal

abbrev pub decreases-chains_to : goal.decreases-chains_to
decreases-chains_to l = l.rounds

abbrev pub invariant-loop-item : goal.invariant-loop-item
invariant-loop-item l =
    list_any (λ y. leads (chained_in l.rows) (l.rounds - 1) y l.fn.to)
    (map (λ i. i.child) (drop l.item-index l.item-items))
    ≡ leads (chained_in l.rows) l.rounds l.fn.from l.fn.to
