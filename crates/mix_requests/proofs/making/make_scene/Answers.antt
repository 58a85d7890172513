use Rattle.std.proofs.Common.{ℕ, refl}
use Rattle.mix_model.specs.Causes.{scene_cause}
use Rattle.mix_model.specs.Edits.{scene_created}
use Rattle.mix_studio.proofs.LentLemmas.{call_beside, lent_shape}
use Rattle.mix_requests.proofs.MakingLemmas.{edits_done, edits_refused, scene_beside}
use Rattle.mix_requests.specs.Sources.{edited_alone}
use Rattle.mix_requests.proofs.making.make_scene.Goals as goal

-- the scene is made, or its cause refuses it
pub returns-in-Ok-clause-edits : goal.returns-in-Ok-clause-edits
returns-in-Ok-clause-edits c = edits_done c.args.studio.now c.graph_mut-graph.result.now
    c.create_scene-made.new.self c.graph_mut-graph.ensures.value (scene_created c.args.name)
    (λ g. scene_cause g c.args.name (scene_created c.args.name g)) _ refl c.requires.ready.begun
    c.in-Ok.ensures.ok c.in-Ok.ensures.refused

pub returns-in-Err-clause-edits : goal.returns-in-Err-clause-edits
returns-in-Err-clause-edits c = edits_refused c.args.studio.now
    c.graph_mut-graph.result.now c.create_scene-made.new.self c.graph_mut-graph.ensures.value ℕ
    (λ g. scene_cause g c.args.name (scene_created c.args.name g)) _ refl c.in-Err.fault
    c.from.result (edited_alone (scene_created c.args.name) c.args.studio.now.present)
    c.in-Err.ensures.err c.from.ensures c.in-Err.ensures.refused

-- and the shape comes back
pub returns-in-Ok-clause-shape : goal.returns-in-Ok-clause-shape
returns-in-Ok-clause-shape c = lent_shape c.args.studio.now c.graph_mut-graph.result.now
    c.create_scene-made.new.self c.graph_mut-graph.ensures.value c.requires.ready.shape
    c.has_shape.ensures.shape (call_beside c.create_scene-made.result _ _
    (scene_created c.args.name) (scene_beside c.args.name) c.create_scene-made.ensures.ok
    c.create_scene-made.ensures.err)
