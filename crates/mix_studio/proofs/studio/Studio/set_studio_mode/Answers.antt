use Rattle.std.proofs.Common.{◌≡◌}
use Rattle.mix_model.specs.Edits.{preview_set}
use Rattle.mix_model.specs.Marks.{edited}
use Rattle.mix_studio.proofs.ChangeLemmas.{mode_agrees, mode_is_other, mode_same, mode_state}
use Rattle.mix_studio.proofs.ChangeLemmas.{preview_shape, target_fits, target_there, viewed_preview}
use Rattle.mix_studio.proofs.SceneLemmas.{left_where_ok}
use Rattle.mix_studio.proofs.studio.Studio.set_studio_mode.Goals as goal

-- it is so already
pub returns-then-self-enabled-clause-state : goal.returns-then-self-enabled-clause-state
returns-then-self-enabled-clause-state c = mode_same c.args.self.now c.args.enabled
    (mode_agrees _ c.args.self.now c.self.view_is c.args.enabled c.if-self-enabled.true)

-- the preview is set to a scene, or to nothing
pub set_preview-requires : goal.set_preview-requires
set_preview-requires c = record {
  scene = target_fits _ c.args.self.now c.self.view_is c.requires.shape c.args.enabled
      c.mode_preview-preview.result c.mode_preview-preview.ensures.value;
}

-- which isn't missing
set : (c : goal.After-has_shape) → c.set_preview.new.self
    ≡ edited (preview_set c.mode_preview-preview.result) c.self.inside.graph
set c = left_where_ok c.set_preview.result _ c.set_preview.ensures.ok
    (λ err. target_there _ c.args.self.now c.self.view_is c.requires.shape c.args.enabled
    c.mode_preview-preview.result c.mode_preview-preview.ensures.value
    (c.set_preview.ensures.missing.0 err))

pub returns-clause-state : goal.returns-clause-state
returns-clause-state c = mode_state _ c.args.self.now c.set_preview.new.self c.args.enabled
    c.mode_preview-preview.result c.self.view_is
    (mode_is_other _ c.args.self.now c.self.view_is c.args.enabled c.if-self-enabled.false)
    (viewed_preview _ c.args.self.now c.self.view_is c.args.enabled c.mode_preview-preview.result
    c.mode_preview-preview.ensures.value) (set c)

pub returns-clause-shape : goal.returns-clause-shape
returns-clause-shape c = preview_shape _ c.args.self.now c.set_preview.new.self
    c.mode_preview-preview.result c.args.enabled c.self.view_is (set c) c.requires.shape
    c.has_shape.ensures.shape
