-- Each scene or group is one down; a row is before its items, and the items before each of them. Of a
-- scene or group, the draws so far and those of the items that are left are all.
use Rattle.std.proofs.Common.{◌≡◌, ◌++◌, ◌+◌, ◌*◌, drop}
use Rattle.std.specs.List.{flat_map, list_all}
use Rattle.mix_model.specs.Lookups.{items_in}
use Rattle.mix_plan.specs.Listed.{item_draws, listed}
use Rattle.mix_plan.specs.Seen.{item_is_sound, is_sound}
use Rattle.mix_plan.proofs.rows.+list.Given as goal

abbrev pub decreases-list_row : goal.decreases-list_row
decreases-list_row g l = 3 * l.deeper

abbrev pub decreases-list_items : goal.decreases-list_items
decreases-list_items g l = 3 * l.deeper + 2

abbrev pub decreases-list_item : goal.decreases-list_item
decreases-list_item g l = 3 * l.deeper + 1

abbrev pub invariant-list_items-loop-index : goal.invariant-list_items-loop-index
invariant-list_items-loop-index g l = record {
  steps : l.listing.steps.items ≡ l.fn.listing.steps.items;
  draws : l.listing.draws.items ++ flat_map (item_draws (g.T.Tree.rows l.tree) l.canvas
      (listed (g.T.Tree.rows l.tree) l.canvas l.deeper) l.fn.listing.steps.items)
      (drop l.index (items_in (g.T.Tree.rows l.tree) l.parent))
      ≡ l.fn.listing.draws.items ++ flat_map (item_draws (g.T.Tree.rows l.tree) l.canvas
      (listed (g.T.Tree.rows l.tree) l.canvas l.deeper) l.fn.listing.steps.items)
      (items_in (g.T.Tree.rows l.tree) l.parent);
  sound : list_all (item_is_sound (g.T.Tree.rows l.tree) l.canvas
      (is_sound (g.T.Tree.rows l.tree) l.canvas l.deeper))
      (drop l.index (items_in (g.T.Tree.rows l.tree) l.parent))
      ≡ list_all (item_is_sound (g.T.Tree.rows l.tree) l.canvas
      (is_sound (g.T.Tree.rows l.tree) l.canvas l.deeper))
      (items_in (g.T.Tree.rows l.tree) l.parent);
}
