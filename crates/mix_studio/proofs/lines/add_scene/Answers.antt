use Rattle.std.proofs.Common.{◌∙◌, ℕ}
use Rattle.mix_studio.proofs.LineLemmas.{scene_as_call, scene_left, told_as}
use Rattle.mix_studio.proofs.lines.add_scene.Goals as goal

-- the scene is made
pub returns-in-Ok-clause-refused : goal.returns-in-Ok-clause-refused
returns-in-Ok-clause-refused c =
    scene_as_call c.args.graph.now c.requires.fresh c.args.name ∙ c.in-Ok.ensures.refused

pub returns-in-Ok-clause-left : goal.returns-in-Ok-clause-left
returns-in-Ok-clause-left c = scene_left c.args.graph.now c.create_scene.new.self c.args.name
    c.requires.fresh c.in-Ok.ensures.ok

-- or its cause refuses it
pub returns-in-Err-clause-refused : goal.returns-in-Err-clause-refused
returns-in-Err-clause-refused c = told_as ℕ c.in-Err.fault
    (scene_as_call c.args.graph.now c.requires.fresh c.args.name) c.in-Err.ensures.refused
