use Rattle.std.proofs.Common.{◌≡◌, ◌++◌, take, map}
use Rattle.mix_script.specs.Output.{text_line}
use Rattle.mix_script.specs.Writing.{joined}
use Rattle.mix_script.proofs.output.put_told.Given as goal

-- the lines so far are written, and nothing failed
abbrev pub invariant-told : goal.invariant-told
invariant-told g l = record {
  written : g.K.Sink.Tells → g.K.Sink.held l.out
      ≡ g.K.Sink.held l.fn.out ++ joined (map (text_line l.conn) (take l.said-index l.told));
  steady : g.K.Sink.faults l.out ≡ g.K.Sink.faults l.fn.out;
}
