use Rattle.mix_outside.proofs.Runs.{ends_there}
use Rattle.mix_outside.proofs.read_ahead.ReadAhead.next_line.Goals as goal

-- the bytes behind the last line feed
pub returns-in-End-clause-lines : goal.returns-in-End-clause-lines
returns-in-End-clause-lines g c = λ told.
    ends_there _ c.runs.line.items _ (c.runs.invariant.lines told) (c.in-End.ensures.bytes told).0
