-- The rounds fall; and what the items that are left put on is what all of them do.
use Rattle.std.proofs.Common.{◌≡◌, ◌-◌, drop, map, filter}
use Rattle.std.specs.List.{list_any}
use Rattle.mix_model.specs.Rows.{is_visible}
use Rattle.mix_model.specs.Walks.{leads}
use Rattle.mix_store.specs.Searched.{flagged_also, next_in}
use Rattle.mix_store.proofs.search.+flag_walked.Given as goal

abbrev pub decreases-flag_walked : goal.decreases-flag_walked
decreases-flag_walked l = l.rounds

abbrev pub invariant-loop-item : goal.invariant-loop-item
invariant-loop-item l =
    flagged_also (λ x. list_any (λ y. leads (next_in l.rows) (l.rounds - 1) y x)
    (map (λ i. i.child) (filter is_visible (drop l.item-index l.item-items)))) l.rows l.flags
    ≡ flagged_also (leads (next_in l.rows) l.rounds l.fn.from) l.rows l.fn.flags
