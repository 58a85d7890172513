use Rattle.std.proofs.Common.{◌≡◌, ◌∙◌}
use Rattle.mix_model.specs.Edits.{source_removed}
use Rattle.mix_model.specs.Marks.{edited}
use Rattle.mix_studio.proofs.ChangeLemmas.{forgot_listed, remove_sort, remove_there}
use Rattle.mix_studio.proofs.ChangeLemmas.{remove_unnamed, removed_keeps, removed_state}
use Rattle.mix_studio.proofs.ChangeLemmas.{view_bus_of, view_sources_of}
use Rattle.mix_studio.proofs.SceneLemmas.{left_where_ok}
use Rattle.mix_studio.proofs.studio.Studio.remove_scene.Goals as goal

-- what the program shows without the scene are scenes of the registry
pub show_program-requires-clause-scenes : goal.show_program-requires-clause-scenes
show_program-requires-clause-scenes c = forgot_listed _ c.args.self.now c.self.view_is
    c.requires.shape c.args.scene c.other_scene-other.result c.requires.two c.forget-change.new.self
    c.other_scene-other.ensures.value c.forget-change.ensures.state

-- the scene may be removed then
pub remove_source-requires-clause-sort : goal.remove_source-requires-clause-sort
remove_source-requires-clause-sort c = remove_sort _ c.args.self.now c.self.view_is
    c.requires.shape c.args.scene c.other_scene-other.result c.requires.two c.forget-change.new.self
    c.other_scene-other.ensures.value c.forget-change.ensures.state _
    (c.self-2.view_is ∙ c.show_program.ensures.state) c.requires.scene
    (view_sources_of _ _ c.self-2.view_is c.show_program.ensures.sources)

pub remove_source-requires-clause-program : goal.remove_source-requires-clause-program
remove_source-requires-clause-program c = remove_unnamed _ c.args.self.now c.self.view_is
    c.requires.shape c.args.scene c.other_scene-other.result c.requires.two c.forget-change.new.self
    c.other_scene-other.ensures.value c.forget-change.ensures.state _
    (c.self-2.view_is ∙ c.show_program.ensures.state) c.requires.scene
    (view_sources_of _ _ c.self-2.view_is c.show_program.ensures.sources)

-- it isn't missing, and goes
gone : (c : goal.After-has_shape) →
    c.remove_source.new.self ≡ edited (source_removed c.args.scene) c.self-2.inside.graph
gone c = left_where_ok c.remove_source.result _ c.remove_source.ensures.ok
    (λ err. remove_there _ c.args.self.now c.self.view_is
    c.requires.shape c.args.scene c.other_scene-other.result c.requires.two c.forget-change.new.self
    c.other_scene-other.ensures.value c.forget-change.ensures.state _
    (c.self-2.view_is ∙ c.show_program.ensures.state) c.requires.scene
    (view_sources_of _ _ c.self-2.view_is c.show_program.ensures.sources)
    (c.remove_source.ensures.missing.0 err))

pub returns-clause-state : goal.returns-clause-state
returns-clause-state c = removed_state _ c.args.self.now c.self.view_is
    c.requires.shape c.args.scene c.other_scene-other.result c.requires.two c.forget-change.new.self
    c.other_scene-other.ensures.value c.forget-change.ensures.state _ c.remove_source.new.self
    (c.self-2.view_is ∙ c.show_program.ensures.state) (gone c)

pub returns-clause-shape : goal.returns-clause-shape
returns-clause-shape c = removed_keeps _ c.args.self.now c.self.view_is
    c.requires.shape c.args.scene c.other_scene-other.result c.requires.two c.forget-change.new.self
    c.other_scene-other.ensures.value c.forget-change.ensures.state _ (returns-clause-state c)
    (view_bus_of _ _ c.self-2.view_is c.show_program.ensures.program)
    c.has_shape.ensures.shape
