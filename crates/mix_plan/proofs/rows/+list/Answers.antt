-- an item more is listed, or there was none; and a row that has items lists them
use Rattle.std.proofs.Common.{sym, ◌∙◌}
use Rattle.mix_model.specs.Lookups.{items_in}
use Rattle.mix_plan.proofs.LoopLemmas.{draws_more, tests_more, some_within, items_listed, items_sound}
use Rattle.mix_plan.proofs.rows.+list.Goals as goal
use Rattle.mix_plan.proofs.rows.+list.Goals.{list_items-in-Some+in_ok-list_item, list_items-in_default}

pub list_row-returns-clause-draws : goal.list_row-returns-clause-draws
list_row-returns-clause-draws g t c =
    rw (items_listed (g.T.Tree.rows c.args.tree.now) c.args.canvas c.args.deeper c.args.serial
    c.row-row.result c.if-deeper-eq0.false c.row-row.ensures.value
    (sym c.if-not-has_items.ensures) c.args.listing.now.steps.items
    c.args.blend) c.list_items.ensures.draws

pub list_row-returns-clause-sound : goal.list_row-returns-clause-sound
list_row-returns-clause-sound g t c =
    rw (items_sound (g.T.Tree.rows c.args.tree.now) c.args.canvas c.args.deeper c.args.serial
    c.row-row.result c.if-deeper-eq0.false c.row-row.ensures.value c.row-row.ensures.valid
    (sym c.if-not-has_items.ensures)) c.list_items.ensures.sound

pub list_items-loop-index-preserved : goal.list_items-loop-index-preserved
list_items-loop-index-preserved g t c = elim c.match-item_at.branch [
  | list_items-in-Some+in_ok-list_item w ↦
      let is = sym c.item_at.ensures.value ∙ w.in-Some.is in
      rw w.listing-is (record {
        steps = w.in_ok-list_item.ensures.steps ∙ c.loop-index.invariant.steps;
        draws = draws_more _ (items_in (g.T.Tree.rows c.args.tree.now) c.args.parent)
            c.loop-index.index w.in-Some.item c.loop-index.listing.draws.items _ _ is
            c.loop-index.invariant.draws
            (rw c.loop-index.invariant.steps at w.in_ok-list_item.ensures.draws);
        sound = tests_more _ (items_in (g.T.Tree.rows c.args.tree.now) c.args.parent)
            c.loop-index.index w.in-Some.item _ is c.loop-index.invariant.sound
            w.in_ok-list_item.ensures.sound;
      })
  | list_items-in_default w ↦
      some_within (items_in (g.T.Tree.rows c.args.tree.now) c.args.parent) c.loop-index.index
      (rw c.requires.count at c.loop-index-test.true)
      (sym c.item_at.ensures.value ∙ w.in_default.is)
]
