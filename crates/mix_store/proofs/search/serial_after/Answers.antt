-- a row more is nearer, or isn't
use Rattle.mix_store.proofs.NextLemmas.{next_row}
use Rattle.mix_store.proofs.search.serial_after.Goals as goal

pub loop-row-preserved : goal.loop-row-preserved
loop-row-preserved c = next_row c.args.serial c.args.rows.now c.loop-row.row-index
    c.row-item.result c.loop-row.next c.nearer-next.result c.loop-row-test.true c.row-item.is
    c.loop-row.invariant c.nearer-next.ensures
