use Rattle.std.proofs.Common.{◌≡◌, ◌≤◌, ◌+◌, ◌++◌, [], length}
use Rattle.mix_outside.specs.Lines.{lines_of}
use Rattle.mix_engine.specs.Engines.{text_bytes}
use Rattle.mix_program.specs.Run.{run}
use Rattle.mix_program.specs.Ends.{Goes}
use Rattle.mix_program.proofs.running.script.each_line.Given as goal

abbrev pub invariant-lines : goal.invariant-lines
invariant-lines g l = record {
  goes : g.S.Source.Tells → g.K.Sink.Tells → Goes (g.K.Sink.held l.fn.out) (g.K.Sink.held l.out)
      (run l.limits l.fn.engine.start [] l.limits.bytes (lines_of (g.S.Source.left l.fn.script)))
      (run l.limits l.engine.start l.engine.journal l.room
      (lines_of (l.ahead ++ g.S.Source.left l.script)));
  number : l.number ≡ length l.engine.journal + 1;
  bytes : text_bytes l.engine.journal + l.room ≡ l.limits.bytes;
  same : l.engine.limits ≡ l.limits;
  count : l.number ≤ l.limits.turns + 1;
  reads : g.S.Source.faults l.script ≡ g.S.Source.faults l.fn.script;
  writes : g.K.Sink.faults l.out ≡ g.K.Sink.faults l.fn.out;
}

abbrev pub decreases-lines : goal.decreases-lines
decreases-lines g l = l.room
