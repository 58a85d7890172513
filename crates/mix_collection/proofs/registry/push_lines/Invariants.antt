use Rattle.std.proofs.Common.{◌≡◌, All, option_map}
use Rattle.mix_model.specs.Fitting.{Fits}
use Rattle.mix_outside.specs.Lines.{Whole}
use Rattle.mix_collection.specs.Collections.{lines_in}
use Rattle.mix_collection.specs.Read.{SetsNoChannel, behind_lines}
use Rattle.mix_collection.specs.Within.{lines_left}
use Rattle.mix_collection.proofs.registry.push_lines.Given as goal

abbrev pub invariant-lines : goal.invariant-lines
invariant-lines g l = record {
  all : g.C.Source.Tells →
      lines_in l.canvas
      (Whole l.fn.feed.line.items (lines_left l.fn.feed (g.C.Source.left l.fn.source)))
      ≡ option_map (behind_lines l.lines.items)
      (lines_in l.canvas (Whole l.feed.line.items (lines_left l.feed (g.C.Source.left l.source))));
  fits : All Fits l.lines.items;
  unset : All SetsNoChannel l.lines.items;
  steady : g.C.Source.faults l.source ≡ g.C.Source.faults l.fn.source;
}

abbrev pub decreases-lines : goal.decreases-lines
decreases-lines g l = l.feed.room
