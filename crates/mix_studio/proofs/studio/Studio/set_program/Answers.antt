use Rattle.std.proofs.Common.{◌≡◌, ◌∙◌}
use Rattle.mix_model.specs.Studio.{program_set}
use Rattle.mix_studio.specs.Studios.{studio_edited}
use Rattle.mix_studio.proofs.ChangeLemmas.{set_listed, set_shape, set_state}
use Rattle.mix_studio.proofs.studio.Studio.set_program.Goals as goal

-- what the program shows then are scenes of the registry
pub show_program-requires-clause-scenes : goal.show_program-requires-clause-scenes
show_program-requires-clause-scenes c = set_listed _ c.args.self.now c.self.view_is
    c.set-change.new.self c.args.scene c.set-change.ensures.state c.requires.shape
    c.requires.scene

-- the program is set, and channel 0 names what it shows
set : (c : goal.After-show_program) →
    c.show_program.new.self ≡ studio_edited (program_set c.args.scene) c.args.self.now
set c = c.show_program.ensures.state ∙ set_state _ c.args.self.now c.self.view_is
    c.set-change.new.self c.args.scene c.set-change.ensures.state

pub returns-clause-state : goal.returns-clause-state
returns-clause-state c = set c

pub returns-clause-shape : goal.returns-clause-shape
returns-clause-shape c = set_shape c.args.self.now c.show_program.new.self c.args.scene (set c)
    c.requires.shape c.show_program.ensures.program c.show_program.ensures.sources
