use Rattle.std.proofs.Common.{◌∙◌, ℕ}
use Rattle.mix_studio.proofs.FreshLemmas.{items_left, serials_left}
use Rattle.mix_studio.proofs.LineLemmas.{group_as_call, group_fits, group_left, told_as}
use Rattle.mix_studio.proofs.lines.add_group.Goals as goal

-- it has an allowed place
pub create_group-requires-clause-place : goal.create_group-requires-clause-place
create_group-requires-clause-place c = group_fits c.args.name c.args.parent.now
    c.args.spec.enabled c.args.spec.locked c.args.spec.place c.args.spec.blend c.requires.fits

-- serials and ids can still be given
pub create_group-requires-clause-drawn : goal.create_group-requires-clause-drawn
create_group-requires-clause-drawn c =
    serials_left c.args.graph.now c.requires.fresh c.has_shape.ensures.shape

pub create_group-requires-clause-item_drawn : goal.create_group-requires-clause-item_drawn
create_group-requires-clause-item_drawn c = items_left c.args.graph.now c.in-Ok.parent
    c.requires.fresh c.has_shape.ensures.shape

-- the group is made
pub returns-in-Ok-create_group-clause-refused : goal.returns-in-Ok-create_group-clause-refused
returns-in-Ok-create_group-clause-refused c = group_as_call c.args.graph.now c.requires.fresh
    c.args.name c.args.parent.now c.in-Ok.parent c.args.spec c.in-Ok.ensures.value
    ∙ c.in-Ok-create_group.ensures.refused

pub returns-in-Ok-create_group-clause-left : goal.returns-in-Ok-create_group-clause-left
returns-in-Ok-create_group-clause-left c = group_left c.args.graph.now c.create_group.new.self
    c.args.name c.args.parent.now c.in-Ok.parent c.args.spec c.requires.fresh
    c.in-Ok.ensures.value c.in-Ok-create_group.ensures.refused c.in-Ok-create_group.ensures.ok

-- or its cause refuses it
pub returns-in-Err-clause-refused : goal.returns-in-Err-clause-refused
returns-in-Err-clause-refused c = told_as (ℕ × ℕ) c.in-Err.fault
    (group_as_call c.args.graph.now c.requires.fresh c.args.name c.args.parent.now
    c.in-Ok.parent c.args.spec c.in-Ok.ensures.value) c.in-Err.ensures.refused
