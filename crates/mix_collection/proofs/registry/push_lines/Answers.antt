use Rattle.std.proofs.Common.{sym, ◌∙◌, rules}
use Rattle.mix_outside.specs.Lines.{Whole}
use Rattle.mix_collection.specs.Within.{lines_left}
use Rattle.mix_collection.proofs.Pushed.{program_pushed, cut_pushed, pushes_failed}
use Rattle.mix_collection.proofs.registry.push_lines.Goals as goal

-- the line is the program's, or nothing
pub returns-in-None-clause-pushed : goal.returns-in-None-clause-pushed
returns-in-None-clause-pushed g c = λ tells. program_pushed c.args.canvas
    (Whole c.args.feed.now.line.items
    (lines_left c.args.feed.now (g.C.Source.left c.args.source.now)))
    (lines_left c.lines.feed (g.C.Source.left c.lines.source)) c.lines.feed.line.items
    c.lines.lines.items (c.lines.invariant.all tells) c.read_program.result
    (sym (rw c.as_slice.ensures.value at c.in_ok-line.ensures.value) ∙ c.in-None.is)
    (c.read_program.ensures.program tells)

-- no line stands behind the one that was pushed
pub returns-in_err-take_line-clause-pushed : goal.returns-in_err-take_line-clause-pushed
returns-in_err-take_line-clause-pushed g c = λ tells. pushes_failed c.args.canvas
    c.from_residual-in_err-take_line.result c.in_err-take_line.field-0.0 _ _ (search rules)
    (λ built. cut_pushed c.args.canvas
    (Whole c.args.feed.now.line.items
    (lines_left c.args.feed.now (g.C.Source.left c.args.source.now)))
    (lines_left c.lines.feed (g.C.Source.left c.lines.source)) c.lines.feed.line.items
    c.lines.lines.items (c.lines.invariant.all tells) c.in-Some.line
    (sym (rw c.as_slice.ensures.value at c.in_ok-line.ensures.value) ∙ c.in-Some.is)
    (c.in_err-take_line.ensures.lines tells built))
