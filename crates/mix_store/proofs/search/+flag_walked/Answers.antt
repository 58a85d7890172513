-- the flags of the first row, and then those of its next rows
use Rattle.std.proofs.Common.{sym, ◌∙◌, ap, option_copied}
use Rattle.std.proofs.lemmas.List.{drop_all}
use Rattle.mix_store.specs.Searched.{next_in}
use Rattle.mix_store.proofs.WalkLemmas.{walk_stays, walk_starts, walk_seen, walk_hidden, walk_done}
use Rattle.mix_store.proofs.search.+flag_walked.Goals as goal
use Rattle.mix_store.proofs.search.+flag_walked.Goals.{then-item, else-item}

pub returns-in_default : goal.returns-in_default
returns-in_default t c = walk_stays c.args.rows.now c.args.rounds c.args.from c.args.flags.now _
    (sym c.row_at.ensures ∙ ap option_copied c.in_default.is) c.flag_row.ensures

pub loop-item-init : goal.loop-item-init
loop-item-init t c = walk_starts c.args.rows.now c.args.rounds c.args.from c.in-Some.row.now _
    c.args.flags.now _ c.if-rounds-eq0.false
    (sym c.row_at.ensures ∙ ap option_copied c.in-Some.is) c.as_slice-item-items.ensures.value
    c.flag_row.ensures

pub loop-item-preserved : goal.loop-item-preserved
loop-item-preserved t c = elim c.if-item.branch [
  | then-item w ↦ rw w.flags-is (walk_seen (next_in c.args.rows.now) _ c.args.rows.now
      c.as_slice-item-items.result.now c.loop-item.item-index c.item-item.result _ _ _
      c.loop-item-test.true c.item-item.is w.if-item.true w.flag_walked.ensures
      c.loop-item.invariant)
  | else-item w ↦ rw w.flags-is (walk_hidden (next_in c.args.rows.now) _ c.args.rows.now
      c.as_slice-item-items.result.now c.loop-item.item-index c.item-item.result _ _
      c.loop-item-test.true c.item-item.is w.if-item.false c.loop-item.invariant)
]

pub returns : goal.returns
returns t c = walk_done (next_in c.args.rows.now) _ c.args.rows.now
    c.as_slice-item-items.result.now c.loop-item.item-index _ _
    (drop_all c.loop-item.item-index c.as_slice-item-items.result.now c.loop-item-test.false)
    c.loop-item.invariant
