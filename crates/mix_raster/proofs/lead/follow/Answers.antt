use Rattle.std.proofs.Common.{get_or, arith}
use Rattle.mix_raster.proofs.SpanLemmas.{follow_step, follow_end}
use Rattle.mix_raster.proofs.lead.follow.Goals as goal

-- a step more
pub loop-step-preserved : goal.loop-step-preserved
loop-step-preserved c = λ i u small is.
    follow_step c.loop-step.goes_down c.exchange-goes_down.result c.turns_aside.result
    c.args.steps.now c.loop-step.step-index _ c.axis_of-axis.result
    (get_or c.loop-step.table i 0) (get_or c.lead_on.new.table i 0) u (omega arith)
    c.axis_of-axis.ensures.value c.turns_aside.ensures.value c.exchange-goes_down.ensures
    (c.loop-step.invariant i u small is) (λ v at. c.lead_on.ensures.led i v small at)

-- and no more
pub returns : goal.returns
returns c = record {
  led = λ i u small is. follow_end c.loop-step.goes_down c.args.steps.now c.loop-step.step-index
      (get_or c.loop-step.table i 0) u (omega arith) (c.loop-step.invariant i u small is);
}
