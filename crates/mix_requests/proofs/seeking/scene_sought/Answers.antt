use Rattle.std.proofs.Common.{◌∙◌, sym}
use Rattle.mix_requests.proofs.SoughtLemmas.{is_there, other_found, scene_found, scene_registered}
use Rattle.mix_requests.proofs.seeking.scene_sought.Goals as goal

-- the row that was found is there
pub unreachable-requires : goal.unreachable-requires
unreachable-requires c = is_there c.args.graph.now.present c.has_shape.ensures.shape
    c.args.name.now c.in-Some.serial c.in-Some.ensures.reply c.in_default-row.ensures.reply

-- a scene
pub returns-then-is_scene-clause-value : goal.returns-then-is_scene-clause-value
returns-then-is_scene-clause-value c = scene_found c.args.graph.now.present
    c.has_shape.ensures.shape c.args.name.now c.in-Some.serial c.in-Some.ensures.reply
    c.in-Some-row.row c.in-Some-row.ensures.reply
    (sym c.is_scene.ensures.value ∙ c.if-is_scene.true)

pub returns-then-is_scene-clause-registered : goal.returns-then-is_scene-clause-registered
returns-then-is_scene-clause-registered c = scene_registered c.args.graph.now.present
    c.has_shape.ensures.shape c.args.name.now c.in-Some.serial c.in-Some.ensures.reply
    c.in-Some-row.row c.in-Some-row.ensures.reply
    (sym c.is_scene.ensures.value ∙ c.if-is_scene.true)

-- and another source
pub returns-else-is_scene-clause-value : goal.returns-else-is_scene-clause-value
returns-else-is_scene-clause-value c = other_found c.args.graph.now.present
    c.has_shape.ensures.shape c.args.name.now c.in-Some.serial c.in-Some.ensures.reply
    c.in-Some-row.row c.in-Some-row.ensures.reply
    (sym c.is_scene.ensures.value ∙ c.if-is_scene.false)
