use Rattle.std.proofs.Common.{arith, ap, sym, ◌∙◌}
use Rattle.mix_fanout.specs.Keys.{is_line}
use Rattle.mix_fanout.proofs.Counts.{held_list, let_go_list, let_go_not}
use Rattle.mix_fanout.proofs.store.release.Goals as goal
use Rattle.mix_fanout.proofs.store.release.Goals.{then-is, else-is}

-- what waits in the next list is still held
pub let_all_go-requires : goal.let_all_go-requires
let_all_go-requires c = held_list c.args.conn _ c.loop-lane.store c.args.lanes.now
    c.loop-lane.lane-index c.lane-item.result _ (omega arith)
    (ap (is_line c.args.conn) (sym c.lane-item.is) ∙ sym c.is.ensures.value ∙ c.if-is.true)
    (c.keys.ensures.value ∙ ap (λ l. l.keys) c.lane-item.is) c.requires c.loop-lane.invariant

-- one more list is let go where it is the connection's
pub loop-lane-preserved : goal.loop-lane-preserved
loop-lane-preserved c = elim c.if-is.branch [
  | then-is w ↦ rw w.store-is (let_go_list c.args.conn _ c.loop-lane.store _ c.args.lanes.now
      c.loop-lane.lane-index c.lane-item.result _ (omega arith)
      (ap (is_line c.args.conn) (sym c.lane-item.is) ∙ sym c.is.ensures.value ∙ w.if-is.true)
      (w.keys.ensures.value ∙ ap (λ l. l.keys) c.lane-item.is) c.loop-lane.invariant
      w.let_all_go.ensures.state)
  | else-is w ↦ rw w.store-is (let_go_not c.args.conn _ c.loop-lane.store c.args.lanes.now
      c.loop-lane.lane-index c.lane-item.result (omega arith)
      (ap (is_line c.args.conn) (sym c.lane-item.is) ∙ sym c.is.ensures.value ∙ w.if-is.false)
      c.loop-lane.invariant)
]
