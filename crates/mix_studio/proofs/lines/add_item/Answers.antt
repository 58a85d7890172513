use Rattle.std.proofs.Common.{◌∙◌, ℕ}
use Rattle.mix_studio.proofs.FreshLemmas.{items_left}
use Rattle.mix_studio.proofs.LineLemmas.{item_as_call, item_fits, item_left, told_as}
use Rattle.mix_studio.proofs.lines.add_item.Goals as goal

-- it has an allowed place
pub add_item-requires-clause-place : goal.add_item-requires-clause-place
add_item-requires-clause-place c = item_fits c.args.parent.now c.args.child.now
    c.args.spec.enabled c.args.spec.locked c.args.spec.place c.args.spec.blend c.requires.fits

-- the parent can still give an id
pub add_item-requires-clause-drawn : goal.add_item-requires-clause-drawn
add_item-requires-clause-drawn c = items_left c.args.graph.now c.in-Ok.parent
    c.requires.fresh c.has_shape.ensures.shape

-- the item is made
pub returns-in-Ok-add_item-clause-refused : goal.returns-in-Ok-add_item-clause-refused
returns-in-Ok-add_item-clause-refused c = item_as_call c.args.graph.now c.requires.fresh
    c.args.parent.now c.args.child.now c.in-Ok.parent c.in-Ok-serial_named.child c.args.spec
    c.in-Ok.ensures.value c.in-Ok-serial_named.ensures.value ∙ c.in-Ok-add_item.ensures.refused

pub returns-in-Ok-add_item-clause-left : goal.returns-in-Ok-add_item-clause-left
returns-in-Ok-add_item-clause-left c = item_left c.args.graph.now c.add_item.new.self
    c.args.parent.now c.args.child.now c.in-Ok.parent c.in-Ok-serial_named.child c.args.spec
    c.requires.fresh c.in-Ok.ensures.value c.in-Ok-serial_named.ensures.value
    c.in-Ok-add_item.ensures.ok

-- or its cause refuses it
pub returns-in-Err-clause-refused : goal.returns-in-Err-clause-refused
returns-in-Err-clause-refused c = told_as ℕ c.in-Err.fault
    (item_as_call c.args.graph.now c.requires.fresh c.args.parent.now c.args.child.now
    c.in-Ok.parent c.in-Ok-serial_named.child c.args.spec c.in-Ok.ensures.value
    c.in-Ok-serial_named.ensures.value) c.in-Err.ensures.refused
