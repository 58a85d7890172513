use Rattle.std.proofs.Common.{sym}
use Rattle.mix_req_items.proofs.ItemLemmas.{item_found, item_sought_is, never_none, none_sought}
use Rattle.mix_req_items.proofs.finding.item_sought.Goals as goal

-- without a place there is none
pub returns-in_default-clause-value : goal.returns-in_default-clause-value
returns-in_default-clause-value c = none_sought c.args.graph.now.present c.args.holder c.args.id
    c.in_default.ensures.value

-- at its place it stands
pub returns-in_default-item_at-clause-value : goal.returns-in_default-item_at-clause-value
returns-in_default-item_at-clause-value c = never_none c.args.graph.now.present c.args.holder c.args.id
    c.in-Some.index c.in-Some.ensures.value (sym c.in_default-item_at.ensures.reply)

pub returns-clause-value : goal.returns-clause-value
returns-clause-value c = item_sought_is c.args.graph.now.present c.args.holder c.args.id
    c.in-Some.index c.in-Some.ensures.value c.in-Some-item_at.item (sym c.in-Some-item_at.ensures.reply)

pub returns-clause-found : goal.returns-clause-found
returns-clause-found c = item_found c.args.graph.now.present c.args.holder c.args.id
    c.in-Some.index c.in-Some.ensures.value c.in-Some-item_at.item (sym c.in-Some-item_at.ensures.reply)
    c.requires.named
