-- The rounds fall; and what the items that are left decide is what all of them decide.
use Rattle.std.proofs.Common.{◌≡◌, ◌-◌, drop, map, filter}
use Rattle.std.specs.List.{list_any}
use Rattle.mix_model.specs.Rows.{is_visible}
use Rattle.mix_model.specs.Walks.{leads}
use Rattle.mix_store.specs.Searched.{next_in}
use Rattle.mix_store.proofs.search.+leads_to.Given as goal

abbrev pub decreases-leads_to : goal.decreases-leads_to
decreases-leads_to l = l.rounds

abbrev pub invariant-loop-item : goal.invariant-loop-item
invariant-loop-item l =
    list_any (λ y. leads (next_in l.rows) (l.rounds - 1) y l.fn.to)
    (map (λ i. i.child) (filter is_visible (drop l.item-index l.item-items)))
    ≡ leads (next_in l.rows) l.rounds l.fn.from l.fn.to
