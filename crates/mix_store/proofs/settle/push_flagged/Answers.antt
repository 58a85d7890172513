-- a row whose flag is on is the next to die; there is room for all of them
use Rattle.std.proofs.Common.{◌<◌, ◌∙◌, sym, arith, length, vec_capacity}
use Rattle.std.proofs.lemmas.Grind.{common_steps}
use Rattle.mix_store.proofs.SettleLemmas.{flag_off, room_for_one, one_more}
use Rattle.mix_store.proofs.settle.push_flagged.Goals as goal
use Rattle.mix_store.proofs.settle.push_flagged.Goals.{then-flags-index, else-flags-index}

pub push_reserved-requires : goal.push_reserved-requires
push_reserved-requires c =
    let below : length c.loop-index.dying.items < vec_capacity c.args.dying.now =
    room_for_one c.args.rows.now c.args.flags.now c.loop-index.index
    c.index-rows-index.result c.requires.each c.loop-index-test.true c.index-rows-index.is
    c.if-flags-index.true c.args.dying.now.items c.loop-index.dying.items _
    c.loop-index.invariant.all c.requires.room in
    rw c.loop-index.invariant.room (grind (arith, common_steps, below))

pub loop-index-preserved : goal.loop-index-preserved
loop-index-preserved c = elim c.if-flags-index.branch [
  | then-flags-index w ↦ rw (
    w.dying-is,
    w.push_reserved.ensures.items,
    ← w.index-rows-index.is,
  ) (record {
    all = one_more c.args.rows.now c.args.flags.now c.loop-index.index w.index-rows-index.result
        c.requires.each c.loop-index-test.true w.index-rows-index.is w.if-flags-index.true
        c.loop-index.dying.items _ c.loop-index.invariant.all;
    room = w.push_reserved.ensures.capacity ∙ c.loop-index.invariant.room;
  })
  | else-flags-index w ↦ rw w.dying-is (record {
    all = rw (sym (flag_off c.args.rows.now c.args.flags.now c.loop-index.index
        c.requires.each c.loop-index-test.true w.if-flags-index.false))
        c.loop-index.invariant.all;
    room = c.loop-index.invariant.room;
  })
]
