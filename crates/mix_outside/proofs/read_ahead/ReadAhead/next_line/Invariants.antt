use Rattle.std.proofs.Common.{◌≡◌, ◌≤◌, ◌-◌, ◌++◌, length}
use Rattle.mix_outside.specs.Lines.{lines_of, put_before}
use Rattle.mix_outside.proofs.read_ahead.ReadAhead.next_line.Given as goal

-- the line so far, and then the lines of what is left, are the lines of all; and no call failed
abbrev pub invariant-runs : goal.invariant-runs
invariant-runs g l = record {
  lines : g.S.Source.Tells → lines_of (l.fn.self ++ g.S.Source.left l.fn.source)
      ≡ put_before l.line.items (lines_of (l.self ++ g.S.Source.left l.source));
  fits : length l.line.items ≤ l.room;
  steady : g.S.Source.faults l.source ≡ g.S.Source.faults l.fn.source;
}

-- the room that is left for the line
abbrev pub decreases-runs : goal.decreases-runs
decreases-runs g l = l.room - length l.line.items
