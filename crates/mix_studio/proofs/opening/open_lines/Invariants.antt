use Rattle.std.proofs.Common.{◌≡◌, drop}
use Rattle.mix_model.specs.Edits.{empty_graph}
use Rattle.mix_model.specs.Lines.{lines_done}
use Rattle.mix_studio.specs.Openings.{IsFresh}
use Rattle.mix_studio.proofs.opening.open_lines.Given as goal

-- the lines so far are done, and those that are left decide the rest
abbrev pub invariant-loop-line : goal.invariant-loop-line
invariant-loop-line l = record {
  fresh : IsFresh l.graph;
  done : lines_done empty_graph l.lines
      ≡ lines_done l.graph.present (drop l.line-index l.lines);
}
