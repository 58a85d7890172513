use Rattle.std.proofs.Common.{◌≡◌, Some}
use Rattle.mix_model.specs.Edits.{preview_set}
use Rattle.mix_model.specs.Marks.{edited}
use Rattle.mix_studio.proofs.ChangeLemmas.{preview_shape, preview_state, scene_fits, scene_there}
use Rattle.mix_studio.proofs.SceneLemmas.{left_where_ok}
use Rattle.mix_studio.proofs.studio.Studio.set_preview.Goals as goal

-- it is a scene
pub set_preview-requires : goal.set_preview-requires
set_preview-requires c = record {
  scene = scene_fits _ c.args.self.now c.self.view_is c.requires.shape c.args.scene
      c.requires.scene;
}

-- which isn't missing
set : (c : goal.After-has_shape) →
    c.set_preview.new.self ≡ edited (preview_set (Some c.args.scene)) c.self.inside.graph
set c = left_where_ok c.set_preview.result _ c.set_preview.ensures.ok
    (λ err. scene_there _ c.args.self.now c.self.view_is c.requires.shape c.args.scene
    c.requires.scene (c.set_preview.ensures.missing.0 err))

pub returns-clause-state : goal.returns-clause-state
returns-clause-state c = preview_state _ c.args.self.now c.set_preview.new.self c.args.scene
    c.self.view_is (set c)

pub returns-clause-shape : goal.returns-clause-shape
returns-clause-shape c = preview_shape _ c.args.self.now c.set_preview.new.self
    (Some c.args.scene) c.self.inside.studio_mode c.self.view_is (set c) c.requires.shape
    c.has_shape.ensures.shape
