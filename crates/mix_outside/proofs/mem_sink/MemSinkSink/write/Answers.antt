use Rattle.mix_outside.proofs.Fronts.{appends_first}
use Rattle.mix_outside.proofs.mem_sink.MemSinkSink.write.Goals as goal

-- what fitted is a front of the piece
pub returns-then-named-2-clause-bytes : goal.returns-then-named-2-clause-bytes
returns-then-named-2-clause-bytes c =
    rw (← c.self.view_is) (appends_first _ _ _ c.if-named.count
    (rw c.unwrap.ensures at c.extend_from_slice.ensures.items))
