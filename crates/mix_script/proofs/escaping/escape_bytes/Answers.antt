-- one byte more is written
use Rattle.mix_script.proofs.EscapeLemmas.{written-more}
use Rattle.mix_script.proofs.escaping.escape_bytes.Goals as goal

pub loop-byte-preserved : goal.loop-byte-preserved
loop-byte-preserved c =
    rw c.in_ok-push_escaped.ensures
    (written-more c.args.text.now c.loop-byte.written.items c.loop-byte.byte-index c.loop-byte-test.true c.loop-byte.invariant)
