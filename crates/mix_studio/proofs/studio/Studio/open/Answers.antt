use Rattle.mix_studio.proofs.OpeningLemmas.{line_refuses, opened_value, opens_with, parts_low}
use Rattle.mix_studio.proofs.OpeningLemmas.{parts_shape, preview_refuses, program_refuses}
use Rattle.mix_studio.proofs.studio.Studio.open.Goals as goal

-- a line is refused, or the preview, or the program
pub returns-in-Err-clause-refused : goal.returns-in-Err-clause-refused
returns-in-Err-clause-refused c = line_refuses c.args.setup.now.collection c.in-Err.fault
    (rw c.as_slice-lines.ensures.value at c.in-Err.ensures.refused)

pub returns-in-Err-preview_named-clause-refused : goal.returns-in-Err-preview_named-clause-refused
returns-in-Err-preview_named-clause-refused c = preview_refuses c.args.setup.now.collection
    c.in-Ok.graph.present (rw c.as_slice-lines.ensures.value at c.in-Ok.ensures.value)
    c.in-Err-preview_named.fault c.in-Err-preview_named.ensures.refused

pub returns-in-Err-scene_named-clause-refused : goal.returns-in-Err-scene_named-clause-refused
returns-in-Err-scene_named-clause-refused c = program_refuses c.args.setup.now.collection
    c.in-Ok.graph.present (rw c.as_slice-lines.ensures.value at c.in-Ok.ensures.value)
    c.in-Ok-preview_named.ensures.refused c.in-Err-scene_named.fault
    c.in-Err-scene_named.ensures.refused

-- the studio is the one that the collection stands for
pub returns-clause-value : goal.returns-clause-value
returns-clause-value c = opened_value c.args.setup.now.collection c.in-Ok.graph.present _ _ _
    c.in-Ok-preview_named.ensures.value c.in-Ok-scene_named.ensures.value
    c.set_ends.ensures.present _ _ _ c.opening_bus.ensures.value c.is_some.ensures
    c.none.ensures.value (opens_with c.args.setup.now.collection c.in-Ok.graph.present
    (rw c.as_slice-lines.ensures.value at c.in-Ok.ensures.value)
    c.in-Ok-preview_named.ensures.refused c.in-Ok-scene_named.ensures.refused)

pub returns-clause-shape : goal.returns-clause-shape
returns-clause-shape c = parts_shape c.args.setup.now.collection c.in-Ok.graph.present _ _ _
    c.in-Ok-preview_named.ensures.value c.in-Ok-scene_named.ensures.value
    c.set_ends.ensures.present _ _ _ c.opening_bus.ensures.value c.is_some.ensures
    c.none.ensures.value c.requires.fits c.in-Ok.ensures.fresh.frames c.set_ends.ensures.shape

-- and its numbers are low
pub returns-clause-low : goal.returns-clause-low
returns-clause-low c = parts_low c.args.setup.now.collection c.in-Ok.graph
    c.in-Ok.ensures.fresh (rw c.as_slice-lines.ensures.value at c.in-Ok.ensures.value) _ _ _ _ _
    _ c.set_ends.ensures.present c.set_ends.ensures.shape
