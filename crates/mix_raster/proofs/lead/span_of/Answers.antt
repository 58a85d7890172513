use Rattle.std.proofs.Common.{ℕ, sym, subst}
use Rattle.mix_raster.specs.Axes.{axis_reached}
use Rattle.mix_raster.specs.Spans.{cut, IsSpan}
use Rattle.mix_raster.proofs.SpanLemmas.{span_is}
use Rattle.mix_raster.proofs.lead.span_of.Goals as goal

-- by all steps
pub returns : goal.returns
returns c =
    let P : ℕ × ℕ → Type 0 = λ span.
    IsSpan span (λ z. cut c.args.side (axis_reached c.args.down c.args.steps.now z)) in record {
      span = subst P (sym c.span_from.ensures.value)
          (span_is c.args.down c.args.steps.now c.args.side c.requires.steps);
    }
