use Rattle.std.proofs.Common.{arith, sym, refl}
use Rattle.mix_fanout.proofs.Views.{said_more, said_same}
use Rattle.mix_fanout.proofs.store.texts.Goals as goal
use Rattle.mix_fanout.proofs.store.texts.Goals.{in-Some+in-Ok, in_default}

-- one event more is said
pub loop-key-preserved : goal.loop-key-preserved
loop-key-preserved c = elim c.match-get.branch [
  | in-Some+in-Ok w ↦ rw w.said-is (record {
    said = said_more c.args.store.now c.args.keys.now c.loop-key.key-index 0 w.in-Some.kept.now
        w.in-Ok.event c.loop-key.said.items _ (omega arith) c.loop-key.invariant.said
        (sym w.in-Some.ensures) w.in-Ok.ensures.value w.push_reserved.ensures.items;
    room = rw (w.push_reserved.ensures.len, w.push_reserved.ensures.capacity)
        (omega (arith, c.loop-key.invariant.room, c.loop-key-test.true));
  })
  | in_default w ↦ rw w.said-is (record {
    said = said_same c.args.store.now c.args.keys.now c.loop-key.key-index 0
        c.loop-key.said.items c.loop-key.said.items (omega arith) c.loop-key.invariant.said
        (sym w.in_default.ensures) refl;
    room = omega (arith, c.loop-key.invariant.room);
  })
]
