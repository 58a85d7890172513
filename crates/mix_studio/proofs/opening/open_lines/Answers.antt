use Rattle.std.proofs.Common.{sym, ap, rules}
use Rattle.mix_model.specs.State.{GraphState}
use Rattle.mix_model.specs.Lines.{lines_done}
use Rattle.mix_studio.proofs.FreshLemmas.{fresh_empty}
use Rattle.mix_studio.proofs.LineLemmas.{fits_at, line_refused, lines_on}
use Rattle.mix_studio.proofs.opening.open_lines.Goals as goal

-- so far no line is done
pub loop-line-init : goal.loop-line-init
loop-line-init c = record {
  fresh = fresh_empty c.new-graph.result c.new-graph.ensures.begun c.new-graph.ensures.present;
  done = ap (λ (g : GraphState). lines_done g c.args.lines.now) (sym c.new-graph.ensures.present);
}

-- the values of the next one are in their ranges
pub add_line-requires-clause-fits : goal.add_line-requires-clause-fits
add_line-requires-clause-fits c = fits_at c.args.lines.now c.loop-line.line-index _
    (search rules) c.line-item.is c.requires.fits

-- it is done
pub loop-line-preserved : goal.loop-line-preserved
loop-line-preserved c = record {
  fresh = c.in-Ok.ensures.left.fresh;
  done = lines_on c.args.lines.now c.loop-line.graph.present c.loop-line.line-index _
      (search rules) c.line-item.is c.loop-line.invariant.done c.in-Ok.ensures.refused
      c.add_line.new.graph.present c.in-Ok.ensures.left.present;
}

-- or the first that is refused
pub returns-in-Err-clause-refused : goal.returns-in-Err-clause-refused
returns-in-Err-clause-refused c = line_refused c.args.lines.now c.loop-line.graph.present
    c.loop-line.line-index _ (search rules) c.line-item.is c.loop-line.invariant.done
    c.in-Err.fault c.in-Err.ensures.refused
