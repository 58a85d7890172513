use Rattle.std.proofs.Common.{◌∙◌, sym}
use Rattle.mix_requests.proofs.SoughtLemmas.{is_there}
use Rattle.mix_req_items.proofs.HolderLemmas.{found_named, holder_found, other_found}
use Rattle.mix_req_items.proofs.finding.holder_sought.Goals as goal

-- the row that was found is there
pub unreachable-requires : goal.unreachable-requires
unreachable-requires c = is_there c.args.graph.now.present c.has_shape.ensures.shape
    c.args.name.now c.in-Some.serial c.in-Some.ensures.reply c.in_default-row.ensures.reply

-- a scene or group
pub returns-then-has_items-clause-value : goal.returns-then-has_items-clause-value
returns-then-has_items-clause-value c = holder_found c.args.graph.now.present
    c.has_shape.ensures.shape c.args.name.now c.in-Some.serial c.in-Some.ensures.reply
    c.in-Some-row.row c.in-Some-row.ensures.reply
    (sym c.has_items.ensures.value ∙ c.if-has_items.true)

pub returns-then-has_items-clause-named : goal.returns-then-has_items-clause-named
returns-then-has_items-clause-named c = found_named c.args.graph.now.present
    c.has_shape.ensures.shape c.args.name.now c.in-Some.serial c.in-Some.ensures.reply

-- and an input
pub returns-else-has_items-clause-value : goal.returns-else-has_items-clause-value
returns-else-has_items-clause-value c = other_found c.args.graph.now.present
    c.has_shape.ensures.shape c.args.name.now c.in-Some.serial c.in-Some.ensures.reply
    c.in-Some-row.row c.in-Some-row.ensures.reply
    (sym c.has_items.ensures.value ∙ c.if-has_items.false)
