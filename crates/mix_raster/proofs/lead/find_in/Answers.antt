use Rattle.std.proofs.Common.{◌-◌, refl, arith}
use Rattle.mix_raster.proofs.SpanLemmas.{table_leads}
use Rattle.mix_raster.proofs.lead.find_in.Goals as goal

-- what was counted, and then led on by all steps
pub returns-clause-leads : goal.returns-clause-leads
returns-clause-leads c =
    let part = c.clip-first.result in
    table_leads c.args.down c.args.steps.now c.args.side c.args.from c.args.total part.0 part.1
    (part.1 - part.0) c.span_of.result c.count_from.new.table c.follow.new.table
    c.span_of.ensures.span c.clip-first.ensures.clipped refl
    (omega (arith, c.clip-first.ensures.clipped.within)) c.count_from.ensures.counted
    c.follow.ensures.led
