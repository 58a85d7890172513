use Rattle.mix_req_items.proofs.HolderLemmas.{found_named, source_found}
use Rattle.mix_req_items.proofs.finding.source_sought.Goals as goal

-- a source of whatever sort
pub returns-in-Some-clause-value : goal.returns-in-Some-clause-value
returns-in-Some-clause-value c = source_found c.args.graph.now.present c.has_shape.ensures.shape
    c.args.name.now c.in-Some.serial c.in-Some.ensures.reply

pub returns-in-Some-clause-named : goal.returns-in-Some-clause-named
returns-in-Some-clause-named c = found_named c.args.graph.now.present c.has_shape.ensures.shape
    c.args.name.now c.in-Some.serial c.in-Some.ensures.reply
